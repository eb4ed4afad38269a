-- What is placed at a place, as it is handed up.
use Rattle.std.proofs.Common.{◌≡◌, ℕ, ◌+◌, ◌<◌, ◌≤◌, List, [], length, refl, sym, ◌∙◌, ap, subst, arith}
use Rattle.std.specs.Prelude.{Some, None, slice_get}
use Rattle.std.proofs.lemmas.List.{get_or_past, length-map}
use Rattle.cil_base.specs.Places.{get_contains, is_there, not_there}
use Rattle.std.specs.Prelude.{Contains}
use Rattle.std.proofs.Common.{inl, inr, true, false}
use Rattle.std.proofs.lemmas.Bool.{cases_lt}
use Rattle.cil_base.specs.Lists.{Lists}
use Rattle.cil_base.specs.Lists.{contains_none}
use Rattle.cil_syntax.specs.declared.program.Statement.{Statement}
use Rattle.cil_syntax.specs.declared.term.Word.{Word}
use Rattle.cil_syntax.specs.Program.{IsNested, begins_as, is_begun, statement_of}
use Rattle.cil_syntax.specs.Written.{Written}
use Rattle.cil_syntax.specs.Scopes.{ScopedWord}
use Rattle.cil_syntax.specs.Terms.{Term}
use Rattle.cil_blocks.specs.Contents.{Stands, standing_cmp, standing_top}
use Rattle.cil_macros.specs.Calls.{IsPlaced, placed_cmp}
use Rattle.cil_macros.proofs.WrittenLemmas.{written_of}
use Rattle.cil_blocks.specs.Entries.{nothing, statement_at}
use Rattle.cil_blocks.specs.Namespaces.{IsNumber}
use Rattle.cil_blocks.specs.Places.{entries_in, statements_in}
use Rattle.cil_blocks.proofs.EntryLemmas.{standings_length}
use Rattle.cil_blocks.proofs.NameLemmas.{at_none, at_some}
use Rattle.cil_blocks.proofs.NamespaceLemmas.{global_at}
use Rattle.cil_macros.specs.Items.{Kept, all_placed, as_word, item_at, item_of, items_in, namespaces_in, placed_at, said_as, said_by, scope_by, word_at, word_of}
use Rattle.cil_macros.specs.Macros.{all_standing}
use Rattle.cil_macros.specs.Meant.{scope_there}
use Rattle.cil_macros.specs.Placed.{Placed, meaning, placed_standing}
use Rattle.cil_macros.specs.Walks.{HaveOneScope, IsScope, written_in}
use Rattle.cil_macros.proofs.EntryLemmas.{placed_length}

module _ (i : Kept) where
  -- as many as stand, and as many as calls bring
  pub placed_many : length (all_placed i) ≡ length (entries_in i.0) + length i.1
  placed_many =
      let l = placed_length (written_in i.0) (all_standing i.0) i.1 in
      let m = standings_length (written_in i.0) (entries_in i.0) in
      omega (arith, l, m)

  pub items_many : length (items_in i) ≡ length (entries_in i.0) + length i.1
  items_many = length-map (all_placed i) (item_of (written_in i.0) (all_standing i.0) (all_placed i)) ∙ placed_many

  -- a place of an item is one of what is placed
  pub is_place : (at : ℕ) → at < length (items_in i) → at < length (entries_in i.0) + length i.1
  is_place at h = let m = items_many in omega (arith, h, m)

  pub placed_so : (at : ℕ) → at < length (entries_in i.0) + length i.1 → slice_get (all_placed i) at ≡ Some (placed_at i at)
  placed_so at h = let m = placed_many in is_there (all_placed i) at (placed_standing (standing_top nothing)) (omega (arith, h, m))

  pub placed_beyond : (at : ℕ) → length (entries_in i.0) + length i.1 ≤ at → placed_at i at ≡ placed_standing (standing_top nothing)
  placed_beyond at h = let m = placed_many in get_or_past (all_placed i) at (placed_standing (standing_top nothing)) (omega (arith, h, m))

  pub none_beyond : (at : ℕ) → length (entries_in i.0) + length i.1 ≤ at → slice_get (all_placed i) at ≡ None
  none_beyond at h = let m = placed_many in not_there (all_placed i) at (omega (arith, h, m))

  -- the namespace of no place is the global one
  pub global_number : (at : ℕ) → length (entries_in i.0) + length i.1 ≤ at → IsNumber (namespaces_in i) (item_at i at).space 0
  global_number at h =
      subst (λ (p : Placed). IsNumber (namespaces_in i) p.standing.space 0) (sym (placed_beyond at h)) (record { within = omega arith; is = global_at (namespaces_in i) })

  -- what a word means says what it says
  pub word_so : (at : ℕ) (w : Word) (t : Term ScopedWord) → t ≡ meaning (written_in i.0) (placed_at i at) w → as_word w t ≡ word_at i at w
  unfolding word_of
  word_so at w t e = ap (as_word w) e

  pub said_so : (at : ℕ) (w : Word) (t : Term ScopedWord) → t ≡ meaning (written_in i.0) (placed_at i at) w → said_as w t ≡ said_by (written_in i.0) (placed_at i at) w
  unfolding said_by
  said_so at w t e = ap (said_as w) e

  -- the statement there, by its number
  module _ (nested : IsNested (statements_in i.0)) (at n : ℕ) (so : (placed_at i at).standing.statement ≡ statement_at (written_in i.0) n) where
    -- the number is one of a statement: none that is placed is what no program has
    number_below : Contains (written_in i.0) (placed_at i at).standing.statement → n < length (statements_in i.0)
    unfolding begins_as
    number_below c = elim (cases_lt n (length (statements_in i.0))) [
      | inl less ↦ less
      | inr ge ↦
          let none = so ∙ at_none (statements_in i.0) nested n (not_there (statements_in i.0) n ge) in
          let f : false ≡ true = subst (λ (w : Written). is_begun w.statement.keyword w.statement.args ≡ true) none (nested.begun (placed_at i at).standing.statement c) in
          absurd cc
    ]

    pub has_number : Lists placed_cmp (IsPlaced (written_in i.0) (all_standing i.0)) (all_placed i) → Lists standing_cmp (Stands (written_in i.0)) (all_standing i.0)
        → at < length (entries_in i.0) + length i.1 → n < length (statements_in i.0)
    has_number placed standings h =
        let is = (placed.members (placed_at i at)).0 (get_contains (all_placed i) at (placed_at i at) (placed_so at h)) in
        number_below (written_of (written_in i.0) (all_standing i.0) (λ s c. (standings.members s).0 c) (placed_at i at) is)

    pub stated_some : (s : Statement) → slice_get (statements_in i.0) n ≡ Some s → statement_of s ≡ (placed_at i at).standing.statement.statement
    stated_some s e = sym (ap (λ (w : Written). w.statement) (so ∙ at_some (statements_in i.0) nested n s e))

  -- the scope there
  pub scope_nowhere : (ks : List ℕ) → ks ≡ [] → IsScope (namespaces_in i) (scope_by (all_placed i) None) ks
  scope_nowhere ks e = subst (IsScope (namespaces_in i) []) (sym e) (record { within = λ k c. absurd (contains_none k c); is = refl })

  pub scope_beyond : (at : ℕ) (ks : List ℕ) → length (entries_in i.0) + length i.1 ≤ at → ks ≡ [] → IsScope (namespaces_in i) (scope_by (all_placed i) (Some at)) ks
  scope_beyond at ks h e = subst (λ o. IsScope (namespaces_in i) (scope_there o) ks) (sym (none_beyond at h)) (scope_nowhere ks e)

  pub scope_placed : (at : ℕ) (ks : List ℕ) → at < length (entries_in i.0) + length i.1
      → ((p : Placed) → slice_get (all_placed i) at ≡ Some p → IsScope (namespaces_in i) p.standing.scope ks) → IsScope (namespaces_in i) (scope_by (all_placed i) (Some at)) ks
  scope_placed at ks h so = subst (λ o. IsScope (namespaces_in i) (scope_there o) ks) (sym (placed_so at h)) (so (placed_at i at) (placed_so at h))

  pub one_scope_by : (at other : ℕ) → at < length (items_in i) → other < length (items_in i) → HaveOneScope (all_placed i) at other
      → scope_by (all_placed i) (Some at) ≡ scope_by (all_placed i) (Some other)
  one_scope_by at other h g one =
      let here = placed_so at (is_place at h) in
      let there = placed_so other (is_place other g) in
      ap scope_there here ∙ one (placed_at i at) (placed_at i other) here there ∙ sym (ap scope_there there)
