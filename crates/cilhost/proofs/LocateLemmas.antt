-- The files that are read for `locate`, and what its status says.
use Rattle.std.proofs.Common.{◌≡◌, ◌+◌, ◌<◌, ◌≤◌, ◌⊎◌, ℕ, suc, List, [], ◌∷◌, ◌++◌, length, take, drop, get_or, Contains, Bor, refl, sym, ◌∙◌, ap, subst, inl, inr, arith}
use Rattle.std.specs.Prelude.{IfSome, None, Some}
use Rattle.cil_sexpr.specs.Text.{longest_text}
use Rattle.std.proofs.Math.ListN.{drop_of_length-le}
use Rattle.std.proofs.Math.Seq.{drop-cons}
use Rattle.std.proofs.lemmas.List.{append_assoc, append-nil, length-take, take_all}
use Rattle.std.proofs.lemmas.List.Elements.{Contains-get_or}
use Rattle.cil_base.specs.Lists.{contains_cases, contains_none}
use Rattle.cil_locate.specs.Files.{SourceFile}
use Rattle.cil_locate.specs.Found.{failures_of}
use Rattle.cil_locate.specs.declared.search.Located.{Located}
use Rattle.cil_locate.specs.declared.search.Located.TheVariants as ends
use Rattle.cilhost.specs.Ends.{error_status}
use Rattle.cilhost.specs.Located.{AreFiles, IsFileOf, IsUnread, located_status, no_file, one_file}
use Rattle.cilhost.specs.Reading.{Failure, HasFailed, IsTextOf, Known}
use Rattle.cilhost.specs.declared.error.Error.{Error}
use Rattle.cilhost.specs.declared.error.Error.TheVariants.{Arguments, Refused, Failed, NoMemory}
use Rattle.cilhost.specs.declared.status.Status.{Status}
use Rattle.cilhost.specs.declared.status.Status.TheVariants as statuses

module _ (holds : List ℕ → Known) (names : List (Bor (List ℕ))) where
  -- whatever is read of the rest completes what was read of the first files
  abbrev pub AreReadUpTo : List SourceFile → ℕ → Type 0
  AreReadUpTo files i = (more : List SourceFile) → AreFiles holds (drop i names) more → AreFiles holds names (files ++ more)

  pub none_read : AreReadUpTo [] 0
  none_read more r = r

  pub one_more_read : (files : List SourceFile) (i : ℕ) (name : Bor (List ℕ)) (file : SourceFile) → i < length names → IsFileOf holds (get_or names i name) file
      → AreReadUpTo files i → AreReadUpTo (files ++ file ∷ []) (i + 1)
  one_more_read files i name file within is r more rest = subst (AreFiles holds names) (sym (append_assoc files (file ∷ []) more))
      (r (file ∷ more) (subst (λ ns. AreFiles holds ns (file ∷ more)) (sym (drop-cons names i name within))
      (one_file (get_or names i name) file (drop (suc i) names) more is (subst (λ k. AreFiles holds (drop k names) more) {x = i + 1} {y = suc i} (omega arith) rest))))

  pub all_read : (files : List SourceFile) (i : ℕ) → length names ≤ i → AreReadUpTo files i → AreFiles holds names files
  all_read files i over r =
      subst (AreFiles holds names) (append-nil files) (r [] (subst (λ ns. AreFiles holds ns []) (sym (drop_of_length-le names over)) no_file))

-- what ends the reading of one file ends that of all
pub unread_of_all : (before failure : Failure) (names : List (Bor (List ℕ))) (i : ℕ) (name : Bor (List ℕ)) (error : Error) → i < length names
    → IsUnread before failure (get_or names i name ∷ []) error → IsUnread before failure names error
unread_of_all before failure names i name (Refused file fault) within u = u
unread_of_all before failure names i name Arguments within u = u
unread_of_all before failure names i name NoMemory within u = u
unread_of_all before failure names i name (Failed file) within u = (
  elim (contains_cases file (get_or names i name) [] u.0) [
    | inl e ↦ subst (Contains names) e (Contains-get_or names i name within)
    | inr n ↦ absurd (contains_none file n)
  ],
  u.1,
)

-- where the status is that of a failure, the system failed or the writer did
pub unread_failed : (before failure : Failure) (names : List (Bor (List ℕ))) (error : Error) (status : Status) → IsUnread before failure names error
    → status ≡ error_status error → status ≡ statuses.Failed → HasFailed failure
unread_failed before failure names (Refused file fault) status u is e = absurd u
unread_failed before failure names Arguments status u is e = absurd u
unread_failed before failure names (Failed file) status u is e = u.1
unread_failed before failure names NoMemory status u is e = absurd cc

pub writer_failed : (ending : Located) (status : Status) (writes writes_now : ℕ) → status ≡ located_status ending → status ≡ statuses.Failed
    → writes_now ≡ writes + failures_of ending → writes_now ≡ writes + 1
writer_failed ends.WriteFailed status writes writes_now is e written = written
writer_failed ends.Accepted status writes writes_now is e written = absurd cc
writer_failed (ends.Faults faults files) status writes writes_now is e written = absurd cc
writer_failed ends.NoMemory status writes writes_now is e written = absurd cc

take_twice : (n : ℕ) (xs : List ℕ) → take n (take n xs) ≡ take n xs
take_twice n xs = take_all n (take n xs) (omega (arith, length-take n xs))

-- what is read of a file is what is looked at
pub file_read : (holds : List ℕ → Known) (name : Bor (List ℕ)) (text : List ℕ) (file : SourceFile) → file ≡ record { name = name.now; text = take (suc longest_text) text }
    → IfSome (holds name.now) (λ bytes. text ≡ take (suc longest_text) bytes) → IsFileOf holds name file
file_read holds name text file is bytes = record { named = ap (λ (f : SourceFile). f.name) is; is_text = by (holds name.now) bytes }
  where
    by : (known : Known) → IfSome known (λ bs. text ≡ take (suc longest_text) bs) → IsTextOf known file.text
    by None e = tt
    by (Some bs) e = ap (λ (f : SourceFile). f.text) is ∙ ap (take (suc longest_text)) e ∙ take_twice (suc longest_text) bs
