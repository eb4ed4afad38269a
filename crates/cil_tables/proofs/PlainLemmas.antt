-- The names of what is declared, and of the namespaces in which it is declared, are names as the language has them. So
-- symbols whose qualified names are spelled alike are one.
use Rattle.std.specs.Prelude.{Contains, Option, Some, None, reverse}
use Rattle.std.specs.Option.{option_map_or}
use Rattle.std.proofs.Common.{◌≡◌, ℕ, true, false, List, [], ◌∷◌, map, refl, sym, ◌∙◌, ap, subst, inl, inr}
use Rattle.cil_base.specs.Lists.{Lists, contains_cases, contains_here, contains_later, contains_none}
use Rattle.cil_base.specs.MadeLists.{from_map}
use Rattle.cil_base.specs.Places.{cons_head, cons_tail, get_at}
use Rattle.cil_syntax.specs.declared.kind.Keyword.{Keyword}
use Rattle.cil_syntax.specs.declared.kind.Keyword.TheVariants as keywords
use Rattle.cil_syntax.specs.declared.kind.Kind.{Kind}
use Rattle.cil_faults.specs.declared.spot.Spot.{Spot}
use Rattle.cil_syntax.specs.declared.term.Word.{Word}
use Rattle.cil_syntax.specs.Program.{begins_as, begins_with_declared, is_begun, is_begun_as}
use Rattle.cil_syntax.specs.Spelling.{is_name}
use Rattle.cil_syntax.specs.Table.{entry_of}
use Rattle.cil_syntax.specs.Terms.{Name, Terms, cons}
use Rattle.cil_syntax.specs.Written.{Named, Written, bytes_of, named_in_front}
use Rattle.cil_blocks.specs.Contents.{Standing, Stands, in_block, in_branch as in_standing_branch, in_optional as in_standing_optional, inherited, is_block, top}
use Rattle.cil_blocks.specs.declared.namespaces.Space.{Space}
use Rattle.cil_blocks.specs.Namespaces.{space_at}
use Rattle.cil_macros.specs.Calls.{IsPlaced, called, in_branch, in_optional, placed_cmp, stands}
use Rattle.cil_macros.specs.Item.{Item, OptSet, everybody}
use Rattle.cil_macros.specs.Items.{item_of}
use Rattle.cil_macros.specs.Placed.{Placed}
use Rattle.cil_macros.proofs.SaidTerms.{front_written, said_terms}
use Rattle.cil_names.specs.declared.entry.Entry.{Entry}
use Rattle.cil_names.specs.Declarations.{Declaration, Declared, IsDeclaration, Symbol, by, declared_by, name_of, object}
use Rattle.cil_names.specs.Entries.{AreEntries}
use Rattle.cil_known.specs.Numbers.{ArePlain, ArePlainNames}
use Rattle.cil_names.proofs.DeclareDecided.{symbol_by}
use Rattle.cil_names.proofs.DeclaringLemmas.{declares_written}
use Rattle.cil_known.proofs.Qualified.{plain_name, spelled_one, turned_plain}
use Rattle.cil_tables.proofs.WideClasses.{in_front, of_own_kind}

-- each is a name as the language has them
abbrev pub AreNames : List (List ℕ) → Type 0
AreNames names = (x : List ℕ) → Contains names x → is_name x ≡ true

-- each statement begins as its first word asks
abbrev pub AreBegun : List Written → Type 0
AreBegun ws = (w : Written) → Contains ws w → is_begun w.statement.keyword w.statement.args ≡ true

-- what some items declare has such names, in namespaces of such names
abbrev pub AreNamed : List Item → Type 0
AreNamed xs = (s : OptSet) (d : Declaration) → IsDeclaration xs s d → AreNames (d.name ∷ d.space)

no_names : AreNames []
no_names x c = absurd (contains_none x c)

name_more : (name : List ℕ) (names : List (List ℕ)) → is_name name ≡ true → AreNames names → AreNames (name ∷ names)
name_more name names is are x c = elim (contains_cases x name names c) [ inl e ↦ ap is_name (sym e) ∙ is | inr d ↦ are x d ]

-- ---- what is placed

named : (o : Option Named) → option_map_or (λ n. is_name n.name) o false ≡ true → is_name (bytes_of o) ≡ true
named None e = absurd (let f : false ≡ true = e in cc)
named (Some x) e = e

block_named : (k : Keyword) (args : Terms Word) → is_block k ≡ true → is_begun k args ≡ true → is_name (bytes_of (named_in_front args)) ≡ true
unfolding begins_as
block_named keywords.Block args b e = named (named_in_front args) e
block_named k args b e = absurd (let f : false ≡ true = b in cc)

-- a statement of the program in a namespace of names
record IsWell (ws : List Written) (s : Standing) : Type 0 where
  among : Contains ws s.statement
  names : AreNames s.space

module _ (ws : List Written) (begun : AreBegun ws) where
  standing_well : (s : Standing) → Stands ws s → IsWell ws s
  standing_well _ (top w c on_top) = record { among = c; names = no_names }
  standing_well _ (in_block s w st is_it not_abstract c inside) =
      let well = standing_well s st in
      record {
        among = c;
        names = name_more (bytes_of (named_in_front s.statement.statement.args)) s.space
            (block_named s.statement.statement.keyword s.statement.statement.args is_it (begun s.statement well.among)) well.names;
      }
  standing_well _ (in_standing_optional s w st is_it c inside) = record { among = c; names = (standing_well s st).names }
  standing_well _ (in_standing_branch s w st is_it c inside) = record { among = c; names = (standing_well s st).names }
  standing_well _ (inherited s b w st is_it target c inside) = record { among = c; names = (standing_well s st).names }

  module _ (ss : List Standing) (standing : (s : Standing) → Contains ss s → Stands ws s) where
    placed_well : (p : Placed) → IsPlaced ws ss p → IsWell ws p.standing
    placed_well _ (stands s c) = standing_well s (standing s c)
    placed_well _ (called p u w is unfolds c inside) = record { among = c; names = (placed_well p is).names }
    placed_well _ (in_optional p b w is body is_it c inside) = record { among = c; names = (placed_well p is).names }
    placed_well _ (in_branch p b w is body is_it c inside) = record { among = c; names = (placed_well p is).names }

    -- ---- what it declares

    with_declared : (ks : List Kind) (kind : Kind) (at : Spot) (name : List ℕ) (rest : Terms Word) → Contains ks kind
        → is_begun_as (begins_with_declared ks) (cons (Name at name) rest) ≡ true → is_name name ≡ true
    with_declared [] kind at name rest c e = absurd (contains_none kind c)
    with_declared (k ∷ ks) kind at name rest c e = e

    begins_with : (k : Keyword) (kind : Kind) (at : Spot) (name : List ℕ) (rest : Terms Word) → Contains (entry_of k).declares kind → is_begun k (cons (Name at name) rest) ≡ true
        → is_name name ≡ true
    unfolding begins_as entry_of
    begins_with keywords.Block kind at name rest c e = absurd (contains_none kind c)
    begins_with keywords.Optional kind at name rest c e = absurd (contains_none kind c)
    begins_with keywords.BlockAbstract kind at name rest c e = absurd (contains_none kind c)
    begins_with keywords.BlockInherit kind at name rest c e = absurd (contains_none kind c)
    begins_with keywords.Call kind at name rest c e = absurd (contains_none kind c)
    begins_with k kind at name rest c e = with_declared (entry_of k).declares kind at name rest c e

    declared_well : (ps : List Placed) (p : Placed) → IsPlaced ws ss p → (d : Declaration) → Contains (declared_by (item_of ws ss ps p)) d → AreNames (d.name ∷ d.space)
    declared_well ps p is d c =
        let well = placed_well p is in
        let x = item_of ws ss ps p in
        let kw = p.standing.statement.statement.keyword in
        let args = p.standing.statement.statement.args in
        let kind = of_own_kind x.space (entry_of x.keyword).declares x.args d c in
        let front = in_front x.space (entry_of x.keyword).declares x.args d c in
        let said = said_terms ws ss p kw args (declares_written kw d.kind kind) in
        let (more, e) = front_written args x.args said front.at d.name front.rest front.says in
        name_more d.name d.space (begins_with kw d.kind front.at d.name more kind (ap (is_begun kw) (sym e) ∙ begun p.standing.statement well.among))
        (subst AreNames (sym front.in_space) well.names)

    pub are_named : (placed : List Placed) → Lists placed_cmp (IsPlaced ws ss) placed → AreNamed (map (item_of ws ss placed) placed)
    are_named placed are s d object = name_more d.name [] refl no_names
    are_named placed are s d (by x f c on declares) =
        let (p, cp, e) = from_map (item_of ws ss placed) placed x c in
        declared_well placed p ((are.members p).0 cp) d (subst (λ (y : Item). Contains (declared_by y) d) (sym e) declares)

-- ---- the names of entries

pub plain_names : (ss : List Space) (xs : List Item) (es : List Entry) → AreNamed xs → AreEntries ss xs es → ArePlainNames ss es
plain_names ss xs es well entries = record {
  namespaces = λ e name c among. let (d, names, space, same) = of_entry e c in names name (contains_later name d.name d.space (subst (λ n. Contains n name) (sym space) among));
  entries = λ e c. let (d, names, space, same) = of_entry e c in ap is_name (sym same) ∙ names d.name (contains_here d.name d.space);
}
  where
    of_entry : (e : Entry) → Contains es e → (d : Declaration) × AreNames (d.name ∷ d.space) × (d.space ≡ space_at ss e.space) × (d.name ≡ e.name)
    of_entry e c =
        let (i, below, at) = get_at es e c in
        let (d, declares, of_kind, in_space, of_name) = entries.only everybody i e at (entries.used i e at) in (d, well everybody d declares, in_space, of_name)

-- ---- symbols

module _ (xs : List Item) (well : AreNamed xs) (s : OptSet) where
  plain_symbol : (kind : Kind) (t : Symbol) → Declared xs s kind t → ArePlain (reverse (t.name ∷ t.space))
  plain_symbol kind t d =
      turned_plain (t.name ∷ t.space) (λ x c. plain_name x (well s d.declaration d.declares x
      (subst (λ (u : Symbol). Contains (u.name ∷ u.space) x) (sym (symbol_by (record { space = d.declaration.space; name = d.declaration.name }) t d.in_space d.of_name)) c)))

  -- symbols of one name are one
  pub one_symbol : (kind j : Kind) (t u : Symbol) → Declared xs s kind t → Declared xs s j u → name_of t ≡ name_of u → t ≡ u
  one_symbol kind j t u d e same =
      let whole = spelled_one (t.name ∷ t.space) (u.name ∷ u.space) (plain_symbol kind t d) (plain_symbol j u e) same in
      symbol_by t u (cons_tail t.name u.name t.space u.space whole) (cons_head t.name u.name t.space u.space whole)
