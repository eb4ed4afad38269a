use Rattle.std.proofs.Common.{◌≡◌, ◌++◌, ap, map, refl, subst, sym, ◌∙◌}
use Rattle.cil_syntax.specs.declared.kind.Kind.TheVariants as kinds
use Rattle.cil_syntax.specs.Said.{args_of, said_of}
use Rattle.cil_macros.proofs.FormLemmas.{all_across}
use Rattle.cil_conditions.specs.known.Known.{enabled_in, value_in}
use Rattle.cil_classes.specs.names.Resolves.{is_mapping}
use Rattle.cil_classes.specs.names.Unresolved.{term_with}
use Rattle.cil_classes.proofs.names_lemmas.ReadingLemmas.{plain_said}
use Rattle.cil_classes.proofs.AlikeLemmas.{like_args, row_alike, with_args}
use Rattle.cil_classes.specs.Perms.{AreMasksOf}
use Rattle.cil_rules.proofs.BehindLemmas.{none_behind}
use Rattle.cil_rules.proofs.LikeLemmas.{behind_like}
use Rattle.cil_rules.proofs.RuleLemmas.{class_begins, other_terms, some_rules, source_listed, source_lost, target_begins, without_source, without_target}
use Rattle.cil_rules.specs.Behind.{AreBehind, rule_with}
use Rattle.cil_rules.specs.Kept.{rule_named, set_named}
use Rattle.cil_rules.specs.Records.{CaseBy, IsRuleOf}
use Rattle.cil_rules.proofs.statement.push_said.Goals as goal

pub returns-in_default : goal.returns-in_default
returns-in_default c = λ x f alike xs branches keyword how is plain enabled taken put names known apart standing classes given row.
    let k = c.args.known.now in
    let s = c.args.statement.now in
    let m = s.at.«module» in
    let ts = all_across f (args_of s) in
    let y = with_args x ts in
    let are = row ∙ row_alike k x ts alike ∙ ap (map (value_in k)) (plain_said y.keyword y.args (ap is_mapping is ∙ plain)) in
    let as_written = behind_like xs (enabled_in k) (names kinds.Type_) c.args.classes.now how keyword x y (like_args x ts alike) in
    as_written _ _ _ _ (none_behind _ _ _ _ _ _ (other_terms xs k keyword how y f (args_of s) refl c.in_default.ensures))

pub returns-in_default-some_at : goal.returns-in_default-some_at
returns-in_default-some_at c = λ x f alike xs branches keyword how is plain enabled taken put names known apart standing classes given row.
    let k = c.args.known.now in
    let s = c.args.statement.now in
    let m = s.at.«module» in
    let ts = all_across f (args_of s) in
    let y = with_args x ts in
    let are = row ∙ row_alike k x ts alike ∙ ap (map (value_in k)) (plain_said y.keyword y.args (ap is_mapping is ∙ plain)) in
    let as_written = behind_like xs (enabled_in k) (names kinds.Type_) c.args.classes.now how keyword x y (like_args x ts alike) in
    let source = c.in-Some.parts.source in
    let target = said_of m c.in-Some.parts.target.now in
    let class_permission = said_of m c.in-Some.parts.class_permission.now in
    as_written _ _ _ _ (none_behind _ _ _ _ _ _ (without_source xs k keyword how y f (args_of s) refl source target class_permission c.in-Some.ensures
    (source_lost k xs names known c.args.types.now standing y f (args_of s) refl source target class_permission c.in-Some.ensures c.args.words.now are c.meaning_at.result c.meaning_at.ensures
    c.in_default-some_at.ensures)))

pub returns-in_default-2 : goal.returns-in_default-2
returns-in_default-2 c = λ x f alike xs branches keyword how is plain enabled taken put names known apart standing classes given row.
    let k = c.args.known.now in
    let s = c.args.statement.now in
    let m = s.at.«module» in
    let ts = all_across f (args_of s) in
    let y = with_args x ts in
    let are = row ∙ row_alike k x ts alike ∙ ap (map (value_in k)) (plain_said y.keyword y.args (ap is_mapping is ∙ plain)) in
    let as_written = behind_like xs (enabled_in k) (names kinds.Type_) c.args.classes.now how keyword x y (like_args x ts alike) in
    let source = c.in-Some.parts.source in
    let target = said_of m c.in-Some.parts.target.now in
    let class_permission = said_of m c.in-Some.parts.class_permission.now in
    as_written _ _ _ _ (none_behind _ _ _ _ _ _ (without_target xs k keyword how y f (args_of s) refl source target class_permission c.in-Some.ensures
    (rw c.in_default-2.is at c.in_ok-target.ensures k xs names f m known standing
    (target_begins k y f (args_of s) refl source target class_permission c.in-Some.ensures c.args.words.now are c.behind_first-of_target.result.now c.behind_first-of_target.ensures))))

pub returns : goal.returns
returns c = λ x f alike xs branches keyword how is plain enabled taken put names known apart standing classes given row.
    let k = c.args.known.now in
    let s = c.args.statement.now in
    let m = s.at.«module» in
    let ts = all_across f (args_of s) in
    let y = with_args x ts in
    let are = row ∙ row_alike k x ts alike ∙ ap (map (value_in k)) (plain_said y.keyword y.args (ap is_mapping is ∙ plain)) in
    let as_written = behind_like xs (enabled_in k) (names kinds.Type_) c.args.classes.now how keyword x y (like_args x ts alike) in
    let source = c.in-Some.parts.source in
    let target = said_of m c.in-Some.parts.target.now in
    let class_permission = said_of m c.in-Some.parts.class_permission.now in
    let types = c.args.types.now in
    let d = c.in-Some-some_at.source in
    let same : set_named types c.in_ok-source.source ≡ set_named types d = ap (set_named types) c.in_ok-source.ensures in
    let source_set = source_listed k xs names known types standing y f (args_of s) refl source target class_permission c.in-Some.ensures c.args.words.now are c.meaning_at.result c.meaning_at.ensures
    (set_named types c.in_ok-source.source) (same ∙ c.in-Some-some_at.ensures.0) in
    let added = c.in_ok-push_perms.ensures xs names f known apart classes given
    (class_begins k y f (args_of s) refl source target class_permission c.in-Some.ensures c.args.words.now are c.behind_first-of_target.result.now c.behind_first-of_target.ensures c.behind-of_class.result.now (c.behind-of_class.ensures f)) in
    let only : c.push_perms.new.out.items ≡ added.masks = added.behind ∙ ap (λ l. l ++ added.masks) c.clear.ensures.items in
    as_written _ _ _ _ (subst (λ p. AreBehind (CaseBy xs (enabled_in k) keyword how) (IsRuleOf xs (enabled_in k) (names kinds.Type_) c.args.classes.now how) (rule_named branches types) y p c.args.out.now.items c.push_named.new.out.items)
    c.in_ok-instance.ensures
    (some_rules xs k keyword how y f (args_of s) refl source target class_permission c.in-Some.ensures names known apart branches c.in_ok-instance.instance c.args.branch taken put (names kinds.Type_) types c.args.classes.now c.in_ok-source.source
    source_set (λ e. c.in-Some-some_at.ensures.1 (sym same ∙ e)) c.in-Some-2.target
    (rw c.in-Some-2.is at c.in_ok-target.ensures k xs names f m known standing
    (target_begins k y f (args_of s) refl source target class_permission c.in-Some.ensures c.args.words.now are c.behind_first-of_target.result.now c.behind_first-of_target.ensures))
    c.push_perms.new.out.items (subst (AreMasksOf xs (enabled_in k) c.args.classes.now (term_with f m c.in-Some.parts.class_permission.now)) (sym only) added.are)
    is enabled
    c.args.out.now.items c.push_named.new.out.items
    (subst (λ ms. c.push_named.new.out.items ≡ c.args.out.now.items ++ map (rule_with c.in_ok-instance.instance c.args.branch c.in_ok-source.source c.in-Some-2.target) ms) c.as_slice.ensures.value c.in_ok-push_named.ensures)))
