-- What becomes of a text that is offered, and what it leaves.
use Rattle.std.proofs.Common.{◌≡◌, ℕ, ◌+◌, List, [], ◌∷◌, length, refl, ◌∙◌, ap, subst, inl, inr, arith}
use Rattle.std.specs.Prelude.{Bool, true, false, Contains, Result, Ok, Err, IfErr, IsErr}
use Rattle.std.specs.Global.{Vec}
use Rattle.std.specs.List.{insert}
use Rattle.std.proofs.lemmas.List.Edits.{length-insert}
use Rattle.cil_base.specs.Lists.{contains_cases, contains_none}
use Rattle.cil_sexpr.specs.declared.fault.ReadError.{ReadError}
use Rattle.cil_sexpr.specs.Refusal.{Refuses}
use Rattle.cil_sexpr.specs.Text.{IsReadable}
use Rattle.cil_modset.specs.Modules.{IsRising, IsUnion, IsPlaceOf, AreModules, texts_of}
use Rattle.cil_modset.specs.Rows.{IsOffered}
use Rattle.cil_modset.proofs.PlaceLemmas.{place_absent, insert_union, insert-texts_of}
use Rattle.cil_modset.proofs.RisingLemmas.{rising_none, rising_one, length-texts_of}
use Rattle.cil_modset.proofs.WalkLemmas.{union_modules}

-- an error at a text that has its place
pub refused : (old new : List (List ℕ)) (text : List ℕ) (place : ℕ) (r : Result Bool ReadError) → IsErr r → IsPlaceOf old text place → IfErr r (Refuses text)
    → new ≡ old → IsOffered old text r new
refused old new text place (Ok i) e at refusal same = absurd cc
refused old new text place (Err f) e at refusal same = record {
  known = (λ h. absurd cc, λ c. absurd (place_absent old text place at c));
  stays = λ h. absurd cc;
  union = λ h. absurd cc;
  one_more = λ h. absurd cc;
  readable = λ h. absurd cc;
  refusal = refusal;
  err = same;
}

abbrev offered : Bool → Result Bool ReadError
offered b = Ok b

-- a text that has its place was put there
pub put_in : (old new : List (List ℕ)) (text : List ℕ) (place : ℕ) → IsPlaceOf old text place → IsReadable text → IsUnion old (text ∷ []) new
    → length new ≡ length old + 1 → IsOffered old text (offered true) new
put_in old new text place at readable union one = record {
  known = (λ h. absurd cc, λ c. absurd (place_absent old text place at c));
  stays = λ h. absurd cc;
  union = λ h. union;
  one_more = λ h. one;
  readable = λ h. readable;
  refusal = tt;
  err = tt;
}

-- a text that is there
pub there : (old new : List (List ℕ)) (text : List ℕ) → Contains old text → new ≡ old → IsOffered old text (offered false) new
there old new text known same = record {
  known = (λ h. known, λ c. refl);
  stays = λ h. same;
  union = λ h. absurd cc;
  one_more = λ h. absurd cc;
  readable = λ h. absurd cc;
  refusal = tt;
  err = tt;
}

pub place_first : (text : List ℕ) → IsPlaceOf [] text 0
place_first text = record {
  within = omega arith;
  before = λ k lt. absurd (omega arith);
  behind = λ k le less. absurd (omega (arith, less));
}

-- the first text of all
pub union_first : (text : List ℕ) → IsUnion [] (text ∷ []) (text ∷ [])
union_first text = record {
  first = rising_none;
  second = rising_one text;
  rising = rising_one text;
  members = λ t. (λ c. inr c, λ h. elim h [ inl c ↦ absurd (contains_none t c) | inr c ↦ c ]);
}

pub installed_longer : (vs ws : List (Vec ℕ)) (place : ℕ) (v : Vec ℕ) (text : List ℕ) → IsPlaceOf (texts_of vs) text place → ws ≡ insert vs place v
    → length (texts_of ws) ≡ length (texts_of vs) + 1
installed_longer vs ws place v text at is =
    let longer = ap length is ∙ length-insert vs place v (omega (arith, at.within, length-texts_of vs)) in
    omega (arith, longer, length-texts_of vs, length-texts_of ws)

-- the texts with one more at its place
pub installed_union : (vs ws : List (Vec ℕ)) (place : ℕ) (v : Vec ℕ) (text : List ℕ) → IsRising (texts_of vs) → IsPlaceOf (texts_of vs) text place
    → ws ≡ insert vs place v → v.items ≡ text → IsUnion (texts_of vs) (text ∷ []) (texts_of ws)
installed_union vs ws place v text rising at is copy =
    let made : texts_of ws ≡ insert (texts_of vs) place text =
    ap texts_of is ∙ insert-texts_of vs place v ∙ ap (λ (t : List ℕ). insert (texts_of vs) place t) copy in
    rw made (insert_union (texts_of vs) text place rising at)

pub one_module : (text : List ℕ) → IsReadable text → AreModules (text ∷ [])
one_module text reads = record {
  rising = rising_one text;
  readable = λ t c. elim (contains_cases t text [] c) [
    | inl e ↦ subst IsReadable e reads
    | inr d ↦ absurd (contains_none t d)
  ];
}

-- what is readable stays so
pub offered_modules : (old : List (List ℕ)) (text : List ℕ) (r : Result Bool ReadError) (new : List (List ℕ)) → AreModules old → IsOffered old text r new
    → AreModules new
offered_modules old text (Ok true) new modules offered =
    union_modules old (text ∷ []) new modules (one_module text (offered.readable refl)) (offered.union refl)
offered_modules old text (Ok false) new modules offered = rw (offered.stays refl) modules
offered_modules old text (Err e) new modules offered = rw offered.err modules
