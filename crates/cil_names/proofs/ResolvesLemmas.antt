-- What resolves, by the entries that it could name.
use Rattle.std.proofs.Common.{◌≡◌, ℕ, ◌<◌, ◌||◌, Bool, true, false, cond, List, [], ◌∷◌, length, refl, sym, ◌∙◌, ap, inl, inr}
use Rattle.std.specs.Prelude.{Contains, Option, Some, None, find, slice_get}
use Rattle.std.specs.List.{list_any}
use Rattle.std.specs.Option.{is_some, option_map_or}
use Rattle.std.proofs.lemmas.Bool.{true≢false}
use Rattle.std.proofs.lemmas.Option.{slice_get_within}
use Rattle.cil_base.specs.Lists.{contains_cases, contains_none}
use Rattle.cil_base.specs.MadeLists.{from_flat}
use Rattle.cil_base.specs.Searches.{found_is}
use Rattle.cil_syntax.specs.Scopes.{ScopedWord, asked, spaces_asked}
use Rattle.cil_macros.specs.blocks.Space.{Space}
use Rattle.cil_macros.specs.blocks.Namespaces.{AreNamespaces}
use Rattle.cil_macros.specs.Item.{Item, OptSet, nobody}
use Rattle.cil_names.specs.declared.entry.Entry.{Entry}
use Rattle.cil_names.specs.Entries.{AreEntries, candidate, candidates_of, is_declared_at, is_entry_of, listed}
use Rattle.cil_names.specs.Laws.{CandidatesAreEntries, ResolvesByCandidates}
use Rattle.cil_names.specs.Meanings.{meant}
use Rattle.cil_names.specs.Symbols.{symbol_of}
use Rattle.cil_names.specs.PermissionWords.{IsAnswerFor, class_with, has_permission_at, wanted_candidates, wanted_meaning}
use Rattle.cil_names.specs.Resolves.{Wanted, Word as AWord, Permission as APermission, has_permission, resolves}
use Rattle.cil_names.proofs.CandidateLemmas.{place_is}
use Rattle.cil_names.proofs.ListedLemmas.{asked_of_class}
use Rattle.cil_names.proofs.PermissionWordLemmas.{wanted_means}

-- ---- what resolves

-- some item passes where a search finds one
module _ {X : Type 0} (p : X → Bool) where
  found_step : (x : X) (xs : List X) (b : Bool) → list_any p xs ≡ is_some (find p xs) → (b || list_any p xs) ≡ is_some (cond b (Some x) (find p xs))
  found_step x xs true rest = refl
  found_step x xs false rest = rest

  any_found : (xs : List X) → list_any p xs ≡ is_some (find p xs)
  any_found [] = refl
  any_found (x ∷ xs) = found_step x xs (p x) (any_found xs)

module _ (ss : List Space) (are : AreNamespaces ss) (xs : List Item) (es : List Entry) (entries : AreEntries ss xs es) (s : OptSet) where
  -- an answer tells whether it resolves
  answered : (w : Wanted) (r : Option ℕ) → IsAnswerFor ss xs es s w r → resolves xs s w ≡ is_some r
  answered w None none = none
  answered (AWord w) (Some d) named = ap is_some named.found
  answered (APermission c p) (Some d) (named, has) = asked_of_class ss are xs es entries c d named s p ∙ has

pub resolves_by : ResolvesByCandidates
resolves_by = λ ss xs es s w are entries.
    answered ss are xs es entries s w (wanted_meaning ss es xs s w) (wanted_means ss xs es s w are entries)
    ∙ sym (any_found (is_declared_at s es) (wanted_candidates ss es xs w))

-- ---- candidates are entries

listed_is : {X : Type 0} (o : Option X) (x : X) → Contains (listed o) x → o ≡ Some x
listed_is None x c = absurd (contains_none x c)
listed_is (Some y) x c = elim (contains_cases x y [] c) [ inl e ↦ ap Some e | inr d ↦ absurd (contains_none x d) ]

module _ (ss : List Space) (es : List Entry) where
  word_within : (w : ScopedWord) (d : ℕ) → Contains (candidates_of ss es w) d → d < length es
  unfolding candidates_of
  word_within w d c =
      let (n, in_scope, is) = from_flat (λ n. listed (candidate ss es (asked w.bytes).name w.sign n)) (spaces_asked (asked w.bytes) w.scope) d c in
      let (e, at, fits) = place_is (is_entry_of ss (asked w.bytes).name w.sign n) es d (listed_is (candidate ss es (asked w.bytes).name w.sign n) d is) in
      slice_get_within es d e at

  module _ (xs : List Item) (p : List ℕ) (d : ℕ) where
    has_within : (o : Option Entry) → slice_get es d ≡ o → option_map_or (λ e. has_permission xs (symbol_of ss e) p) o false ≡ true → d < length es
    has_within None at t = absurd (true≢false (sym t))
    has_within (Some e) at t = slice_get_within es d e at

  class_within : (xs : List Item) (c p : ScopedWord) (d : ℕ) → Contains (listed (class_with ss es xs c p)) d → d < length es
  class_within xs c p d is =
      let (named, has) = found_is (has_permission_at ss es xs p.bytes) (listed (meant ss es nobody c)) d (listed_is (class_with ss es xs c p) d is) in
      has_within xs p.bytes d (slice_get es d) refl has

  candidate_within : (xs : List Item) (w : Wanted) (d : ℕ) → Contains (wanted_candidates ss es xs w) d → d < length es
  candidate_within xs (AWord w) d c = word_within w d c
  candidate_within xs (APermission c p) d is = class_within xs c p d is

pub are_entries : CandidatesAreEntries
are_entries = λ ss xs es w d c. candidate_within ss es xs w d c
