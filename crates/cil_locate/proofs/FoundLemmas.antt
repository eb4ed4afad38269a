-- What is wrong with some files, and what is left of a writer when it was written.
use Rattle.std.proofs.Common.{◌≡◌, ◌+◌, ◌<◌, ◌≤◌, ℕ, Bool, true, false, List, [], ◌∷◌, ◌++◌, length, take, get_or, Option, None, Some, Contains, refl, sym, ◌∙◌, ap, subst, inl, inr, arith}
use Rattle.std.specs.Prelude.{is_some}
use Rattle.std.proofs.lemmas.List.{take_all, take_more}
use Rattle.std.proofs.lemmas.List.Elements.{Contains-append_cases, Contains-get_or}
use Rattle.cil_base.specs.Lists.{contains_cases, contains_none}
use Rattle.cil_server.specs.Streams.{OutputState, Tells, Writes, one_if}
use Rattle.cil_server.proofs.EndLemmas.{told_at_first, told_at_last, told_in_part}
use Rattle.cil_sexpr.specs.declared.fault.ReadFault.{ReadFault}
use Rattle.cil_locate.specs.Files.{SourceFile}
use Rattle.cil_locate.specs.Found.{IsCut, IsEnd, IsFound, IsFoundOf, IsLocated, IsWritten, failures_of, found_text}
use Rattle.cil_locate.specs.Readings.{AreAllRead, AreReadings, AreTexts, no_reading, one_reading}
use Rattle.cil_locate.specs.declared.search.Located.{Located}
use Rattle.cil_locate.specs.declared.search.Located.TheVariants as ends
use Rattle.cil_locate.specs.declared.found.Found.{Found}
use Rattle.cil_locate.specs.declared.found.Found.TheVariants.{Accepted, Refused, Unreadable}

-- ---- whether all is read

pub no_reading_yet : (readings : List (Option ReadFault)) → AreAllRead (take 0 readings)
no_reading_yet readings reading c = absurd (contains_none reading c)

none_of : (reading : Option ReadFault) → is_some reading ≡ false → reading ≡ None
none_of None e = refl
none_of (Some fault) e = absurd cc

pub one_more_read : (readings : List (Option ReadFault)) (i : ℕ) → i < length readings → is_some (get_or readings i None) ≡ false
    → AreAllRead (take i readings) → AreAllRead (take (i + 1) readings)
one_more_read readings i within none all other c =
    elim (Contains-append_cases (take i readings) (get_or readings i None ∷ []) other (subst (λ rs. Contains rs other) (take_more readings i None within) c)) [
      | inl d ↦ all other d
      | inr d ↦ elim (contains_cases other (get_or readings i None) [] d) [
        | inl s ↦ sym s ∙ none_of (get_or readings i None) none
        | inr n ↦ absurd (contains_none other n)
      ]
    ]

pub all_are_read : (readings : List (Option ReadFault)) (i : ℕ) → length readings ≤ i → AreAllRead (take i readings) → AreAllRead readings
all_are_read readings i over all = subst AreAllRead (take_all i readings over) all

pub some_unread : (readings : List (Option ReadFault)) (i : ℕ) → i < length readings → is_some (get_or readings i None) ≡ true → AreAllRead readings → ⊥
some_unread readings i within some all = none (all (get_or readings i None) (Contains-get_or readings i None within))
  where
    none : get_or readings i None ≡ None → ⊥
    none e = let h : true ≡ false = sym some ∙ ap is_some e in cc

-- there is a reading for each file
pub as_many : (files : List SourceFile) (readings : List (Option ReadFault)) → AreReadings files readings → length readings ≡ length files
as_many files readings no_reading = refl
as_many files readings (one_reading file reading fs rs is rest) = let more = as_many fs rs rest in omega (arith, more)

pub not_both : (b : Bool) → b ≡ false → b ≡ true → ⊥
not_both b e h = let both : false ≡ true = sym e ∙ h in cc

-- ---- the policy of the files

pub of_policy : (files : List SourceFile) (modules : List (List ℕ)) (f : Found) → AreTexts files modules → IsFoundOf files modules f → IsFound files f
of_policy files modules (Unreadable readings) texts is = absurd is
of_policy files modules (Refused faults order) texts is = record { modules = modules; are_texts = texts; is_found = is }
of_policy files modules (Accepted compiled order) texts is = record { modules = modules; are_texts = texts; is_found = is }

-- ---- what is left of a writer

no_memory : (f : Found) → IsEnd f ends.NoMemory → ⊥
no_memory (Unreadable readings) e = cc
no_memory (Refused faults order) e = let h = e.2 in cc
no_memory (Accepted compiled order) e = cc

no_failure : (f : Found) → IsEnd f ends.WriteFailed → ⊥
no_failure (Unreadable readings) e = cc
no_failure (Refused faults order) e = let h = e.2 in cc
no_failure (Accepted compiled order) e = cc

located_by : (files : List SourceFile) (optionals : Bool) (before : List ℕ) (contents : Option (List ℕ)) (f : Found) (end : Located) → IsEnd f end
    → IsWritten files optionals before contents end → IsLocated files optionals before contents end
located_by files optionals before contents f ends.Accepted is w = w
located_by files optionals before contents f (ends.Faults faults count) is w = w
located_by files optionals before contents f ends.NoMemory is w = absurd (no_memory f is)
located_by files optionals before contents f ends.WriteFailed is w = absurd (no_failure f is)

module _ (files : List SourceFile) (optionals : Bool) (f : Found) (old new : OutputState) where
  pub located_whole : (end : Located) → IsFound files f → old.has_failed ≡ false → new.has_failed ≡ false → new.waiting ≡ []
      → Tells old new (found_text files optionals f) → IsEnd f end → (before : List ℕ) → old.written ≡ Some before → old.waiting ≡ []
      → IsLocated files optionals before new.written end
  located_whole end is sound fine none tells is_end before known empty =
      located_by files optionals before new.written f end is_end (record {
        found = f;
        is_found = is;
        written = told_at_last new before (found_text files optionals f) none fine (tells.told before [] (told_at_first old before known empty sound));
        is_end = is_end;
      })

  pub located_cut : IsFound files f → old.has_failed ≡ false → new.has_failed ≡ true → Tells old new (found_text files optionals f)
      → (before : List ℕ) → old.written ≡ Some before → old.waiting ≡ [] → IsCut files optionals before new.written
  located_cut is sound broken tells before known empty =
      let part = told_in_part new before (found_text files optionals f) broken (tells.told before [] (told_at_first old before known empty sound)) in
      record { found = f; is_found = is; front = part.0; is_front = part.1; written = part.2 }

  -- which call of the writer failed is known
  counted : (b c : Bool) → old.has_failed ≡ b → new.has_failed ≡ c → Writes old new → new.failures + one_if b ≡ old.failures + one_if c
  counted b c e h w = subst (λ z. new.failures + one_if b ≡ old.failures + one_if z) h
      (subst (λ z. new.failures + one_if z ≡ old.failures + one_if new.has_failed) e w.counts)

  pub failed_once : old.has_failed ≡ false → new.has_failed ≡ true → Writes old new → new.failures ≡ old.failures + 1
  failed_once sound broken w = let e : new.failures + 0 ≡ old.failures + 1 = counted false true sound broken w in omega (arith, e)

  none_failed : (end : Located) → IsEnd f end → failures_of end ≡ 0
  none_failed ends.Accepted is = refl
  none_failed (ends.Faults faults count) is = refl
  none_failed ends.NoMemory is = refl
  none_failed ends.WriteFailed is = absurd (no_failure f is)

  pub never_failed : (end : Located) → IsEnd f end → old.has_failed ≡ false → new.has_failed ≡ false → Writes old new → new.failures ≡ old.failures + failures_of end
  never_failed end is sound fine w =
      let e : new.failures + 0 ≡ old.failures + 0 = counted false false sound fine w in
      let none = none_failed end is in omega (arith, e, none)
