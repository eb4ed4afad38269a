-- What was read without fault is in order as a program: each statement stands where it may, and begins as it should.
use Rattle.std.proofs.Common.{◌≡◌, ℕ, Bool, true, false, ◌&&◌, not, List, [], ◌∷◌, ◌++◌, map, refl, sym, ◌∙◌, ap, subst, inl, inr}
use Rattle.std.specs.Prelude.{Contains, Some, None}
use Rattle.std.specs.List.Sorted.{IsStrictlySortedBy}
use Rattle.std.proofs.lemmas.List.Elements.{Contains-append_cases}
use Rattle.cil_base.specs.Lists.{contains_here, contains_cases, contains_none}
use Rattle.cil_sexpr.specs.Tree.{Nodes}
use Rattle.cil_base.specs.Places.{get_at}
use Rattle.cil_base.specs.Searches.{found_is}
use Rattle.cil_faults.specs.declared.fault.Fault.{Fault}
use Rattle.cil_syntax.specs.declared.kind.Keyword.{Keyword}
use Rattle.cil_syntax.specs.declared.kind.Keyword.TheVariants as keywords
use Rattle.cil_syntax.specs.declared.kind.Kind.{Kind}
use Rattle.cil_syntax.specs.declared.program.Statement as program
use Rattle.cil_syntax.specs.declared.term.Word.{Word}
use Rattle.cil_syntax.specs.Grammar.{FitsRow, name, word, one, as_many, not_as_many}
use Rattle.cil_syntax.specs.Program.{IsNested, begins_as, begins_with_declared, begins_with_name, begins_with_word, is_begun, is_begun_as, program_of}
use Rattle.cil_syntax.specs.Shapes.{Row, item, declared_name, looked_up}
use Rattle.cil_syntax.specs.Spelling.{same_bytes}
use Rattle.cil_syntax.specs.Table.{Entry, classes, containers, effective, entry_of, levels, rules, set_aside, set_aside_words, table, types, in_rules, in_containers, in_types, in_classes, in_levels}
use Rattle.cil_syntax.specs.Terms.{Terms}
use Rattle.cil_syntax.specs.Told.{AreUnder}
use Rattle.cil_syntax.specs.Written.{Written, allows, is_abstraction, is_outside, may_stand, names_its_block, IsWritten, written, ShapeFault, inner, fault_of, written_cmp}
use Rattle.cil_syntax.proofs.SpelledSo.{read_as_spelled}

-- ---- how statements begin

name_begun : (m : ℕ) (row : Row) (ns : Nodes) (ts : Terms Word) → FitsRow m (item declared_name row) ns ts → begins_with_name ts ≡ true
name_begun m row ns ts (one shape r n ms t us (name place bytes free spelled) rest) = spelled

word_begun : (m : ℕ) (sign : _) (row : Row) (ns : Nodes) (ts : Terms Word) → FitsRow m (item (looked_up sign) row) ns ts → begins_with_word ts ≡ true
word_begun m sign row ns ts (one shape r n ms t us (word s place bytes free spelled) rest) = refl

-- what a row asks for first is a name that is declared
abbrev asks_name_first : Row → Bool
asks_name_first (item declared_name row) = true
asks_name_first row = false

named_first : (m : ℕ) (row : Row) (ns : Nodes) (ts : Terms Word) → asks_name_first row ≡ true → FitsRow m row ns ts → begins_with_name ts ≡ true
named_first m (item declared_name row) ns ts e fit = name_begun m row ns ts fit
named_first m row ns ts e fit = absurd cc

-- a statement that declares something asks for its name first
abbrev is_named_well : List Kind → Row → Bool
is_named_well [] row = true
is_named_well (k ∷ ks) row = asks_name_first row

named_well : (k : Keyword) → is_named_well (entry_of k).declares (entry_of k).row ≡ true
unfolding entry_of
named_well keywords.Type_ = refl
named_well k = refl

begun_by : (m : ℕ) (ks : List Kind) (row : Row) (ns : Nodes) (ts : Terms Word) → is_named_well ks row ≡ true → FitsRow m row ns ts → is_begun_as (begins_with_declared ks) ts ≡ true
begun_by m [] row ns ts e fit = refl
begun_by m (k ∷ ks) row ns ts e fit = named_first m row ns ts e fit

begun : (k : Keyword) (m : ℕ) (ns : Nodes) (ts : Terms Word) → FitsRow m (entry_of k).row ns ts → is_begun k ts ≡ true
unfolding entry_of begins_as
begun keywords.Call m ns ts (as_many count first second xs us long fit) = word_begun m _ _ ns ts fit
begun keywords.Call m ns ts (not_as_many count first second xs us other fit) = word_begun m _ _ ns ts fit
begun keywords.BlockAbstract m ns ts fit = word_begun m _ _ ns ts fit
begun keywords.BlockInherit m ns ts fit = word_begun m _ _ ns ts fit
begun keywords.Block m ns ts fit = name_begun m _ ns ts fit
begun keywords.Optional m ns ts fit = name_begun m _ ns ts fit
begun k m ns ts fit = begun_by m (entry_of k).declares (entry_of k).row ns ts (named_well k) fit

-- ---- entries and keywords

-- an entry of a table is that of its keyword, its word apart
record IsOwn (entry : Entry) : Type 0 where
  nesting : (entry_of entry.keyword).nesting ≡ entry.nesting
  row : (entry_of entry.keyword).row ≡ entry.row

keyword_is : (k : Keyword) → (entry_of k).keyword ≡ k
unfolding entry_of
keyword_is keywords.Type_ = refl
keyword_is k = refl

own_entry : (k : Keyword) → IsOwn (entry_of k)
own_entry k = record {
  nesting = ap (λ j. (entry_of j).nesting) (keyword_is k);
  row = ap (λ j. (entry_of j).row) (keyword_is k);
}

own_aside : (w : List ℕ) → IsOwn (set_aside w)
unfolding entry_of
own_aside w = record { nesting = refl; row = refl }

module _ {X Y : Type 0} (f : X → Y) (P : Y → Type 0) where
  of_mapped : ((x : X) → P (f x)) → (xs : List X) (y : Y) → Contains (map f xs) y → P y
  of_mapped h [] y c = absurd (contains_none y c)
  of_mapped h (x ∷ xs) y c = elim (contains_cases y (f x) (map f xs) c) [ inl e ↦ subst P e (h x) | inr d ↦ of_mapped h xs y d ]

own_listed : (ks : List Keyword) (entry : Entry) → Contains (map entry_of ks) entry → IsOwn entry
own_listed ks entry c = of_mapped entry_of IsOwn own_entry ks entry c

own_in : (entry : Entry) → Contains table entry → IsOwn entry
unfolding rules containers types classes levels
own_in entry c =
    elim (Contains-append_cases effective (map set_aside set_aside_words) entry c) [
      | inl d ↦ elim (Contains-append_cases rules (containers ++ (types ++ (classes ++ levels))) entry d) [
        | inl e ↦ own_listed in_rules entry e
        | inr e ↦ elim (Contains-append_cases containers (types ++ (classes ++ levels)) entry e) [
          | inl f ↦ own_listed in_containers entry f
          | inr f ↦ elim (Contains-append_cases types (classes ++ levels) entry f) [
            | inl g ↦ own_listed in_types entry g
            | inr g ↦ elim (Contains-append_cases classes levels entry g) [ inl h ↦ own_listed in_classes entry h | inr h ↦ own_listed in_levels entry h ]
          ]
        ]
      ]
      | inr d ↦ of_mapped set_aside IsOwn own_aside set_aside_words entry d
    ]

-- ---- a program that was read

module _ (modules : List (List ℕ)) (clean : (f : Fault) → ShapeFault modules f → ⊥) where
  -- what is asked of a statement where it stands
  record IsInPlace (w : Written) : Type 0 where
    allowed : may_stand w.context (entry_of w.statement.keyword) ≡ true
    abstraction : names_its_block w.context w.statement.keyword w.statement.args ≡ true
    begun_so : is_begun w.statement.keyword w.statement.args ≡ true

  in_place : (w : Written) → IsWritten modules w → IsInPlace w
  in_place w (written m context n s [] found verdict) =
      let spelled = (read_as_spelled m context n s).0 verdict in
      let own = own_in spelled.entry (found_is (λ (e : Entry). same_bytes spelled.word e.word) table spelled.entry spelled.named).0 in
      let nesting = ap (λ k. (entry_of k).nesting) spelled.keyword ∙ own.nesting in
      let row = ap (λ k. (entry_of k).row) spelled.keyword ∙ own.row in
      record {
        allowed =
            (λ i. allows context.nesting (nesting i) && not (is_abstraction ((keyword_is s.keyword ∙ spelled.keyword) i) && is_outside context.space)) ∙ spelled.allowed;
        abstraction = ap (λ k. names_its_block context k s.args) spelled.keyword ∙ spelled.abstraction;
        begun_so = begun s.keyword m spelled.rest s.args (subst (λ r. FitsRow m r spelled.rest s.args) (sym row) spelled.fits);
      }
  in_place w (written m context n s (i ∷ is) found verdict) =
      absurd (clean (fault_of m context i) (inner m context n s (i ∷ is) i found verdict (contains_here i is)))

  pub nested : (ss : List program.Statement) → AreUnder ss → IsStrictlySortedBy written_cmp (program_of ss) → ((w : Written) → Contains (program_of ss) w → IsWritten modules w) → IsNested ss
  nested ss under rising all = record {
    rising = rising;
    earlier = under.earlier;
    opened = λ s p k c e at. let i = get_at ss s c in under.opened i.0 k s p i.2 e at;
    allowed = λ w c. (in_place w (all w c)).allowed;
    abstraction = λ w c. (in_place w (all w c)).abstraction;
    begun = λ w c. (in_place w (all w c)).begun_so;
  }

-- a program without statements
pub none_under : (ss : List program.Statement) → ss ≡ [] → AreUnder ss
none_under ss e =
    subst AreUnder (sym e)
    (record { earlier = λ i k s at. absurd (let f : None ≡ Some s = at in cc); opened = λ i k s p at. absurd (let f : None ≡ Some s = at in cc) })
