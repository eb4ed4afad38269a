use Rattle.std.specs.Prelude.{Some, length, set, slice_get}
use Rattle.std.specs.List.{list_any}
use Rattle.std.proofs.Common.{◌≡◌, ◌∙◌, ◌∷◌, ◌++◌, [], ap, arith, subst, sym}
use Rattle.std.proofs.lemmas.List.{length-set}
use Rattle.std.proofs.lemmas.Option.{slice_get-get_or}
use Rattle.cil_macros.specs.Items.{item_at, namespaces_in, word_at}
use Rattle.cil_syntax.specs.Spelling.{same_bytes}
use Rattle.cil_names.specs.Permissions.{AreListed, AreOwn}
use Rattle.cil_names.proofs.PermissionLemmas.{added, class_within, kept_again, listed_after}
use Rattle.cil_names.proofs.permissions.add_listed.Goals as goal

pub returns-in_default-clause-listed : goal.returns-in_default-clause-listed
returns-in_default-clause-listed c = λ xs ordered known are. c.in_default.ensures xs c.args.lists.now.items ordered are

pub returns-in_default-clause-last : goal.returns-in_default-clause-last
returns-in_default-clause-last c = λ ordered known. known

pub add_names-requires : goal.add_names-requires
add_names-requires c = class_within _ _ _ _ _ _ c.requires.len c.in-Some.ensures.entry

pub index-requires : goal.index-requires
index-requires c = let h = class_within _ _ _ _ _ _ c.requires.last_len c.in-Some.ensures.entry in let n = c.args.last.now.ok.0 in omega (arith, h, n)

pub index_mut-requires : goal.index_mut-requires
index_mut-requires c = let h = class_within _ _ _ _ _ _ c.requires.last_len c.in-Some.ensures.entry in let n = c.args.last.now.ok.0 in omega (arith, h, n)

-- the same statement was added last
pub returns-then-is_at-clause-listed : goal.returns-then-is_at-clause-listed
returns-then-is_at-clause-listed c = λ xs ordered known are.
    let i = c.args.instances.now in
    let l = c.in-Some.ensures in
    let last : slice_get c.args.last.now.items c.in-Some.list.class ≡ Some (Some c.in-Some.list.statement) =
    slice_get-get_or c.args.last.now.items c.in-Some.list.class c.index.result.now (class_within _ _ _ _ _ _ c.requires.last_len l.entry)
    ∙ ap Some (sym c.index.ensures ∙ c.is_at.ensures.0 c.if-is_at.true) in
    kept_again (namespaces_in i) c.args.entries.now xs (item_at i c.args.at) l.spaces ordered l.space l.numbered l.sign l.name l.declares c.args.lists.now.items c.in-Some.list.class l.entry
    (λ p t. known c.in-Some.list.class c.in-Some.list.statement last p (ap (list_any (same_bytes p)) (sym l.of_statement) ∙ t)) are

pub returns-then-is_at-clause-last : goal.returns-then-is_at-clause-last
returns-then-is_at-clause-last c = λ ordered known. known

pub returns-clause-len : goal.returns-clause-len
returns-clause-len c =
    let a = c.in_ok-add_names.ensures in
    ap length a.is
    ∙ length-set (set c.args.lists.now.items c.in-Some.list.class a.none_yet) c.in-Some.list.class a.after
    ∙ length-set c.args.lists.now.items c.in-Some.list.class a.none_yet
    ∙ c.requires.len

pub returns-clause-listed : goal.returns-clause-listed
returns-clause-listed c = λ xs ordered known are.
    let i = c.args.instances.now in
    let l = c.in-Some.ensures in
    let a = c.in_ok-add_names.ensures in
    subst (AreOwn (namespaces_in i) c.args.entries.now (xs ++ item_at i c.args.at ∷ [])) (sym a.is)
    (added (namespaces_in i) c.args.entries.now xs (item_at i c.args.at) l.spaces ordered l.space l.numbered l.sign l.name l.declares (word_at i c.args.at) l.args l.says c.args.lists.now.items c.in-Some.list.class
    l.entry a.before a.none_yet a.after l.in_module c.in-Some.list.items.now c.requires.len a.was l.listed (a.all l.in_module) are)

pub returns-clause-last : goal.returns-clause-last
returns-clause-last c = λ ordered known.
    let i = c.args.instances.now in
    let l = c.in-Some.ensures in
    let a = c.in_ok-add_names.ensures in
    subst (AreListed i (set c.args.last.now.items c.in-Some.list.class (Some c.in-Some.list.statement))) (sym a.is)
    (listed_after (namespaces_in i) c.args.entries.now [] (item_at i c.args.at) l.spaces ordered l.space l.numbered l.sign l.name l.declares (word_at i c.args.at) l.args l.says c.args.lists.now.items c.in-Some.list.class
    l.entry a.before a.none_yet a.after l.in_module c.in-Some.list.items.now c.requires.len a.was l.listed (a.all l.in_module) i c.args.last.now.items c.in-Some.list.statement
    (class_within _ _ _ _ _ _ c.requires.last_len l.entry) l.of_statement known)
