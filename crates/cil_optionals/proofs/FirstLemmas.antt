-- The first reasons by the parts of statements are those by the statements.
use Rattle.std.specs.Prelude.{Some, slice_get, take}
use Rattle.std.proofs.Common.{◌≡◌, ℕ, suc, List, [], ◌∷◌, ◌++◌, refl, sym, subst, ap, ◌∙◌}
use Rattle.std.proofs.lemmas.List.{append_assoc}
use Rattle.cil_blocks.specs.declared.namespaces.Space.{Space}
use Rattle.cil_macros.specs.Item.{Item}
use Rattle.cil_names.specs.declared.entry.Entry.{Entry}
use Rattle.cil_names.specs.Laws.{ResolvesByCandidates}
use Rattle.cil_optionals.specs.declared.reason.Reason.{Reason}
use Rattle.cil_optionals.specs.Certificate.{left_out}
use Rattle.cil_optionals.specs.First.{AreFirst, IsFirst}
use Rattle.cil_optionals.specs.FirstParts.{AreFirstIn, IsFirstIn}
use Rattle.cil_optionals.specs.Parts.{ArePartsOf, Part, holds_in, left_after, names_one}
use Rattle.cil_optionals.proofs.PartLemmas.{holds_to, left_is}
use Rattle.cil_optionals.proofs.ShownLemmas.{AreSame, one_more_out}

append_nil : (l : List Reason) → l ++ [] ≡ l
append_nil [] = refl
append_nil (x ∷ l) = ap (λ z. x ∷ z) (append_nil l)

module _ (law : ResolvesByCandidates) (ss : List Space) (es : List Entry) (xs : List Item) (ps : List Part) (of : ArePartsOf ss es xs ps) where
  -- the reason is the first one after these
  abbrev IsFirstAfter : List Reason → Reason → Type 0
  IsFirstAfter before r = IsFirstIn ps (left_after ps before) (names_one es (left_after ps before)) r

  first_item : (before : List Reason) (out : List ℕ) (r : Reason) → AreSame out before → IsFirstAfter before r → IsFirst xs out r
  first_item before out r same first q of_it holds =
      first q of_it (ap (λ t. holds_in ps t (names_one es t) q) (left_is law ss es xs ps of before out same) ∙ holds_to law ss es xs ps of out q holds)

  first_after : (before rs : List Reason) (out : List ℕ) → AreSame out before → ((k : ℕ) (r : Reason) → slice_get rs k ≡ Some r → IsFirstAfter (before ++ take k rs) r)
      → AreFirst xs out rs
  first_after before [] out same all = tt
  first_after before (r ∷ rs) out same all = (
    first_item before out r same (subst (λ q. IsFirstAfter q r) (append_nil before) (all 0 r refl)),
    first_after (before ++ r ∷ []) rs (left_out r ∷ out) (one_more_out out before r same)
        (λ k q e. subst (λ z. IsFirstAfter z q) (sym (append_assoc before (r ∷ []) (take k rs))) (all (suc k) q e)),
  )

  pub are_first : (rs : List Reason) → AreFirstIn ps es rs → AreFirst xs [] rs
  are_first rs all = first_after [] rs [] (λ o. refl) all
