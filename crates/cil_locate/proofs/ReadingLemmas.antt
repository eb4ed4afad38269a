-- The texts of the files, read one after another, and what is told of those that cannot be read.
use Rattle.std.proofs.Common.{◌≡◌, ◌+◌, ◌<◌, ◌≤◌, ◌⊎◌, ◌↔◌, ℕ, zero, suc, List, [], ◌∷◌, ◌++◌, length, length-append, take, drop, get_or, Option, None, Some, Result, Ok, Err, Contains, refl, sym, ◌∙◌, ap, subst, inl, inr, arith}
use Rattle.std.proofs.Math.ListN.{drop_of_length-le}
use Rattle.std.proofs.Math.Seq.{drop-cons}
use Rattle.std.proofs.lemmas.List.{append_assoc, append-nil, take_all, take_more}
use Rattle.std.proofs.lemmas.List.Elements.{Contains-append_left, Contains-append_right, Contains-append_cases}
use Rattle.cil_base.specs.Lists.{contains_cases, contains_here, contains_none}
use Rattle.cil_modset.specs.Changes.{IsInstalled}
use Rattle.cil_modset.specs.Modules.{AreModules, IsUnion}
use Rattle.cil_sexpr.specs.Text.{IsReadable}
use Rattle.cil_modset.specs.declared.set.Installed.{Installed}
use Rattle.cil_modset.specs.declared.set.Installed.TheVariants.{New, Known}
use Rattle.cil_sexpr.specs.declared.fault.ReadError.{ReadError}
use Rattle.cil_sexpr.specs.declared.fault.ReadFault.{ReadFault}
use Rattle.cil_server.specs.Streams.{OutputState, Tells}
use Rattle.cil_server.proofs.StreamLemmas.{tells_both, tells_none}
use Rattle.cil_locate.specs.Files.{SourceFile}
use Rattle.cil_locate.specs.Readings.{Adds, AddsText, AreAllRead, AreReadings, IsReading, IsTextOf, no_reading, one_reading, reading_told, readings_told}

-- ---- one text

pub added : (old : List (List ℕ)) (text : List ℕ) (result : Result Installed ReadError) (new : List (List ℕ)) (x : Installed)
    → IsInstalled old text result new → result ≡ Ok x → AddsText text old new
added old text result new New i e =
    let union = i.joined e in record {
      keeps = λ other c. (union.members other).1 (inl c);
      adds = (union.members text).1 (inr (contains_here text []));
      only = λ other c. elim ((union.members other).0 c) [
        | inl d ↦ inl d
        | inr d ↦ elim (contains_cases other text [] d) [ inl s ↦ inr (sym s) | inr n ↦ absurd (contains_none other n) ]
      ];
    }
added old text result new Known i e =
    let same = i.stays e in record {
      keeps = λ other c. subst (λ ms. Contains ms other) (sym same) c;
      adds = subst (λ ms. Contains ms text) (sym same) (i.known.0 e);
      only = λ other c. inl (subst (λ ms. Contains ms other) same c);
    }

-- ---- all texts

abbrev pub HaveTexts : List SourceFile → List (List ℕ) → Type 0
HaveTexts files modules = (text : List ℕ) → Contains modules text ↔ IsTextOf files text

-- whatever is read of the rest completes what was read of the first files
pub record AreReadUpTo (files : List SourceFile) (readings : List (Option ReadFault)) (modules : List (List ℕ)) (i : ℕ) : Type 0 where
  pub many : length readings ≡ i
  pub completes : (more : List (Option ReadFault)) → AreReadings (drop i files) more → AreReadings files (readings ++ more)
  pub texts : AreAllRead readings → HaveTexts (take i files) modules

module _ (files : List SourceFile) where
  pub none_read : AreReadUpTo files [] [] 0
  none_read = record { many = refl; completes = λ more r. r; texts = λ all text. ((λ c. absurd (contains_none text c)), (λ t. absurd (contains_none t.file t.is_there))) }

  -- one text more
  texts_more : (old new : List (List ℕ)) (fs : List SourceFile) (file : SourceFile) → AddsText file.text old new → HaveTexts fs old → HaveTexts (fs ++ file ∷ []) new
  texts_more old new fs file a have text = (there, back)
    where
      there : Contains new text → IsTextOf (fs ++ file ∷ []) text
      there c = elim (a.only text c) [
        | inl d ↦ let t = (have text).0 d in record { file = t.file; is_there = Contains-append_left fs (file ∷ []) t.file t.is_there; same = t.same }
        | inr s ↦ record { file = file; is_there = Contains-append_right fs (file ∷ []) file (contains_here file []); same = sym s }
      ]

      back : IsTextOf (fs ++ file ∷ []) text → Contains new text
      back t = elim (Contains-append_cases fs (file ∷ []) t.file t.is_there) [
        | inl c ↦ a.keeps text ((have text).1 (record { file = t.file; is_there = c; same = t.same }))
        | inr c ↦ elim (contains_cases t.file file [] c) [
          | inl s ↦ subst (λ z. Contains new z) (ap (λ (f : SourceFile). f.text) s ∙ t.same) a.adds
          | inr n ↦ absurd (contains_none t.file n)
        ]
      ]

  pub read_more : (readings : List (Option ReadFault)) (old new : List (List ℕ)) (i : ℕ) (file : SourceFile) (reading : Option ReadFault) → i < length files
      → file ≡ get_or files i file → IsReading file reading → Adds file.text reading old new → AreReadUpTo files readings old i
      → AreReadUpTo files (readings ++ reading ∷ []) new (i + 1)
  read_more readings old new i file reading within at is adds r = record { many = length-append readings (reading ∷ []) ∙ ap (λ n. n + 1) r.many; completes = completes; texts = texts reading adds }
    where
      completes : (more : List (Option ReadFault)) → AreReadings (drop (i + 1) files) more → AreReadings files ((readings ++ reading ∷ []) ++ more)
      completes more rest = subst (AreReadings files) (sym (append_assoc readings (reading ∷ []) more))
          (r.completes (reading ∷ more) (subst (λ fs. AreReadings fs (reading ∷ more)) (ap (λ f. f ∷ drop (suc i) files) at ∙ sym (drop-cons files i file within))
          (one_reading file reading (drop (suc i) files) more is (subst (λ k. AreReadings (drop k files) more) {x = i + 1} {y = suc i} (omega arith) rest))))

      some_none : {x : ReadFault} → Some x ≡ None → ⊥
      some_none e = cc

      texts : (reading : Option ReadFault) → Adds file.text reading old new → AreAllRead (readings ++ reading ∷ []) → HaveTexts (take (i + 1) files) new
      texts None adds all = subst (λ fs. HaveTexts fs new) (ap (λ f. take i files ++ f ∷ []) at ∙ sym (take_more files i file within))
          (texts_more old new (take i files) file adds (r.texts (λ other c. all other (Contains-append_left readings (None ∷ []) other c))))
      texts (Some fault) adds all = absurd (some_none (all (Some fault) (Contains-append_right readings (Some fault ∷ []) (Some fault) (contains_here (Some fault) []))))

  pub all_many : (readings : List (Option ReadFault)) (modules : List (List ℕ)) (i : ℕ) → length files ≤ i → i ≤ length files → AreReadUpTo files readings modules i
      → length readings ≡ length files
  all_many readings modules i over within r = let many = r.many in omega (arith, over, within, many)

  pub all_read : (readings : List (Option ReadFault)) (modules : List (List ℕ)) (i : ℕ) → length files ≤ i → AreReadUpTo files readings modules i → AreReadings files readings
  all_read readings modules i over r =
      subst (AreReadings files) (append-nil readings) (r.completes [] (subst (λ fs. AreReadings fs []) (sym (drop_of_length-le files over)) no_reading))

  pub all_texts : (readings : List (Option ReadFault)) (modules : List (List ℕ)) (i : ℕ) → length files ≤ i → AreReadUpTo files readings modules i → AreAllRead readings
      → HaveTexts files modules
  all_texts readings modules i over r all = subst (λ fs. HaveTexts fs modules) (take_all i files over) (r.texts all)

-- ---- told

-- what was told, and then what is told of the rest, is all
pub record AreToldUpTo (files : List SourceFile) (readings : List (Option ReadFault)) (start now : OutputState) (n : ℕ) : Type 0 where
  pub done : List ℕ
  pub told : Tells start now done
  pub whole : readings_told files readings ≡ done ++ readings_told (drop n files) (drop n readings)

module _ (files : List SourceFile) (readings : List (Option ReadFault)) (start : OutputState) where
  pub none_told : AreToldUpTo files readings start start 0
  none_told = record { done = []; told = tells_none start; whole = refl }

  pub told_more : (now next : OutputState) (n : ℕ) (file : SourceFile) (d : Option ReadFault) → n < length files → length readings ≡ length files
      → file ≡ get_or files n file → Tells now next (reading_told file (get_or readings n d)) → AreToldUpTo files readings start now n
      → AreToldUpTo files readings start next (n + 1)
  unfolding readings_told
  told_more now next n file d within same at more t = record {
    done = t.done ++ one;
    told = tells_both start now next t.done one t.told more;
    whole = t.whole ∙ ap (λ z. t.done ++ z) (ap (λ fs. readings_told fs (drop n readings)) (drop-cons files n file within ∙ ap (λ f. f ∷ drop (suc n) files) (sym at))
        ∙ ap (readings_told (file ∷ drop (suc n) files)) (drop-cons readings n d (omega (arith, within, same))))
        ∙ sym (append_assoc t.done one (readings_told (drop (suc n) files) (drop (suc n) readings)))
        ∙ ap (λ k. (t.done ++ one) ++ readings_told (drop k files) (drop k readings)) {x = suc n} {y = n + 1} (omega arith);
  }
    where
      one : List ℕ
      one = reading_told file (get_or readings n d)

  pub all_told : (now : OutputState) (n : ℕ) → length files ≤ n → AreToldUpTo files readings start now n → Tells start now (readings_told files readings)
  unfolding readings_told
  all_told now n over t = subst (Tells start now) (sym (t.whole ∙ ap (λ fs. t.done ++ readings_told fs (drop n readings)) (drop_of_length-le files over)
      ∙ append-nil t.done)) t.told

-- a text that is there already, or is new, can be read
pub readable : (old : List (List ℕ)) (text : List ℕ) (result : Result Installed ReadError) (new : List (List ℕ)) (x : Installed) → AreModules old
    → IsInstalled old text result new → result ≡ Ok x → IsReadable text
readable old text result new New m i e = i.readable e
readable old text result new Known m i e = m.readable text (i.known.0 e)
