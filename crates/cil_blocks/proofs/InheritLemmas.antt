-- The faults of blocks, told at their statements, are the faults of the step.
use Rattle.std.proofs.Common.{◌≡◌, ◌⊎◌, ℕ, ◌+◌, ◌<◌, ◌≤◌, Bool, true, false, List, [], ◌∷◌, ◌++◌, length, refl, sym, ◌∙◌, ap, subst, inl, inr, arith}
use Rattle.std.specs.Prelude.{◌↔◌, Contains, IfNone, IfSome, IsNone, IsTrue, Option, Some, None}
use Rattle.std.specs.Cmp.{IsTotalOrder}
use Rattle.std.specs.Cmp.Lexicographic.{lists_total}
use Rattle.std.specs.List.{flat_map}
use Rattle.std.proofs.lemmas.Cmp.{nat_cmp_total, on_total, then_total}
use Rattle.std.proofs.lemmas.List.Elements.{Contains-append_left, Contains-append_right, Contains-append_cases}
use Rattle.cil_base.specs.Lists.{Lists, contains_cases, contains_here, contains_none}
use Rattle.cil_faults.specs.declared.code.FaultCode.{FaultCode}
use Rattle.cil_faults.specs.declared.code.FaultCode.TheVariants as causes
use Rattle.cil_faults.specs.declared.failure.Failure.{Failure}
use Rattle.cil_faults.specs.declared.failure.Failure.TheVariants.{Faults, NoMemory}
use Rattle.cil_faults.specs.declared.fault.Fault.{Fault}
use Rattle.cil_syntax.specs.declared.program.Statement.{Statement}
use Rattle.cil_syntax.specs.declared.term.Word.{Word}
use Rattle.cil_faults.specs.Fails.{AreFaults}
use Rattle.cil_syntax.specs.Program.{IsNested, program_of}
use Rattle.cil_faults.specs.Refusal.{Fails}
use Rattle.cil_faults.specs.Reported.{fault_at}
use Rattle.cil_faults.specs.Namespaces.{Namespace}
use Rattle.cil_syntax.specs.Written.{Named, Written, named_in_front}
use Rattle.cil_blocks.specs.declared.entry.Entry.{Entry}
use Rattle.cil_blocks.specs.declared.targets.Targets.{Targets}
use Rattle.cil_blocks.specs.Contents.{Stands, first_word, is_inheriting, standing_cmp, spot_total}
use Rattle.cil_blocks.specs.Doubled.{only_if}
use Rattle.cil_blocks.specs.Entries.{standings_of, statement_at}
use Rattle.cil_blocks.specs.InheritFaults.{InheritFault, InheritStep, IsDoubled, IsOver, cycle, in_contents, in_writing, limit_fault, most_instances, of_blocks, standing_twice, too_many, unresolved, written_twice}
use Rattle.cil_blocks.specs.Laws.{AreCycles, HasNoFault}
use Rattle.cil_blocks.specs.Named.{AreAllTargets, targets_in}
use Rattle.cil_blocks.specs.Reports.{AreAllFaults, AreContents, AreJoined, AreNumbersOf, IsCyclic, IsToldOf, IsUnresolved, fault_of_name, fault_of_word, name_fault, target_fault}
use Rattle.cil_blocks.specs.Steps.{AreOnCycles}
use Rattle.cil_blocks.proofs.EntryLemmas.{standings_length}
use Rattle.cil_base.specs.Places.{none_some}
use Rattle.cil_blocks.proofs.ReportLemmas.{told_so}
use Rattle.cil_base.specs.Rising.{not_over}
use Rattle.cil_faults.proofs.RefusalLemmas.{faults_alike}

-- ---- lists of faults

pub all_alike : (P Q : Fault → Type 0) (o : Option (List Fault)) → ((f : Fault) → P f → Q f) → ((f : Fault) → Q f → P f) → AreAllFaults P o → AreAllFaults Q o
all_alike P Q None to back h = λ f q. h f (back f q)
all_alike P Q (Some l) to back h = faults_alike P Q l to back h

all_listed : (faults : List Fault) (o : Option (List Fault)) → IfSome o (AreFaults (Contains faults)) → (IsNone o ↔ (faults ≡ [])) → AreAllFaults (Contains faults) o
all_listed faults None h n = λ f c. contains_none f (subst (λ xs. Contains xs f) (n.0 refl) c)
all_listed faults (Some l) h n = h

pub told_faults : (ws : List Written) (P : Written → Type 0) (told : Written → List Fault) (numbers : List ℕ) (faults : List Fault) (o : Option (List Fault))
    → AreNumbersOf ws P numbers → faults ≡ flat_map (λ i. told (statement_at ws i)) numbers → IfSome o (AreFaults (Contains faults)) → (IsNone o ↔ (faults ≡ []))
    → AreAllFaults (IsToldOf ws P told) o
told_faults ws P told numbers faults o are is some none =
    all_alike (Contains faults) (IsToldOf ws P told) o (λ f c. (told_so ws P told numbers are f).0 (subst (λ xs. Contains xs f) is c))
    (λ f t. subst (λ xs. Contains xs f) (sym is) ((told_so ws P told numbers are f).1 t)) (all_listed faults o some none)

pub joined_faults : (P Q : Fault → Type 0) (one other o : Option (List Fault)) → AreAllFaults P one → AreAllFaults Q other → AreJoined one other o
    → AreAllFaults (λ f. P f ⊎ Q f) o
joined_faults P Q None other o h k e =
    subst (AreAllFaults (λ f. P f ⊎ Q f)) (sym e) (all_alike Q (λ f. P f ⊎ Q f) other (λ f q. inr q) (λ f d. elim d [ inl p ↦ absurd (h f p) | inr q ↦ q ]) k)
joined_faults P Q (Some l) None o h k e =
    subst (AreAllFaults (λ f. P f ⊎ Q f)) (sym e) (faults_alike P (λ f. P f ⊎ Q f) l (λ f p. inl p) (λ f d. elim d [ inl p ↦ p | inr q ↦ absurd (k f q) ]) h)
joined_faults P Q (Some l) (Some m) None h k e = absurd e
joined_faults P Q (Some l) (Some m) (Some n) h k e =
    faults_alike (λ f. Contains l f ⊎ Contains m f) (λ f. P f ⊎ Q f) n
    (λ f d. elim d [ inl c ↦ inl ((h.listed.members f).0 c) | inr c ↦ inr ((k.listed.members f).0 c) ])
    (λ f d. elim d [ inl p ↦ inl ((h.listed.members f).1 p) | inr q ↦ inr ((k.listed.members f).1 q) ]) e

-- ---- the faults of one statement

name_told : (space : Namespace) (o : Option Named) (f : Fault) → Contains (fault_of_name space o) f
    → (x : Named) × (o ≡ Some x) × (fault_at causes.NameTwice x.at space x.name ≡ f)
name_told space None f c = absurd (contains_none f c)
name_told space (Some x) f c = elim (contains_cases f (fault_at causes.NameTwice x.at space x.name) [] c) [ inl e ↦ (x, refl, e) | inr d ↦ absurd (contains_none f d) ]

word_told : (code : FaultCode) (space : Namespace) (o : Option Word) (f : Fault) → Contains (fault_of_word code space o) f
    → (word : Word) × (o ≡ Some word) × (fault_at code word.at space word.bytes ≡ f)
word_told code space None f c = absurd (contains_none f c)
word_told code space (Some w) f c = elim (contains_cases f (fault_at code w.at space w.bytes) [] c) [ inl e ↦ (w, refl, e) | inr d ↦ absurd (contains_none f d) ]

tells_name : (space : Namespace) (o : Option Named) (x : Named) → o ≡ Some x → Contains (fault_of_name space o) (fault_at causes.NameTwice x.at space x.name)
tells_name space o x e =
    subst (λ p. Contains (fault_of_name space p) (fault_at causes.NameTwice x.at space x.name)) (sym e) (contains_here (fault_at causes.NameTwice x.at space x.name) [])

tells_word : (code : FaultCode) (space : Namespace) (o : Option Word) (w : Word) → o ≡ Some w → Contains (fault_of_word code space o) (fault_at code w.at space w.bytes)
tells_word code space o w e =
    subst (λ p. Contains (fault_of_word code space p) (fault_at code w.at space w.bytes)) (sym e) (contains_here (fault_at code w.at space w.bytes) [])

-- ---- the numbers of some statements

pub to_length : (ws : List Written) (P : Written → Type 0) (n : ℕ) (numbers : List ℕ) → n ≡ length ws
    → ((i : ℕ) → Contains numbers i ↔ ((i < n) × P (statement_at ws i))) → AreNumbersOf ws P numbers
to_length ws P n numbers e are i = (
  (λ c. let h = (are i).0 c in let below = h.0 in (omega (arith, below, e), h.1)),
  (λ h. let below = h.0 in (are i).1 (omega (arith, below, e), h.1)),
)

-- those of the first so many statements
abbrev pub AreNumbersUpTo : List Written → (Written → Type 0) → ℕ → List ℕ → Type 0
AreNumbersUpTo ws P n numbers = (i : ℕ) → Contains numbers i ↔ ((i < n) × P (statement_at ws i))

pub no_numbers : (ws : List Written) (P : Written → Type 0) (numbers : List ℕ) → numbers ≡ [] → AreNumbersUpTo ws P 0 numbers
no_numbers ws P numbers e i = ((λ c. absurd (contains_none i (subst (λ xs. Contains xs i) e c))), (λ h. let below = h.0 in absurd (omega (arith, below))))

or_last : (i n : ℕ) → i < n + 1 → (i < n) ⊎ (i ≡ n)
or_last i n h = grind arith

pub one_numbered : (ws : List Written) (P : Written → Type 0) (n : ℕ) (b : Bool) (old new : List ℕ) → IsTrue b ↔ P (statement_at ws n) → AreNumbersUpTo ws P n old
    → new ≡ old ++ only_if b n → AreNumbersUpTo ws P (n + 1) new
one_numbered ws P n true old new is so e i = (
  (λ c. elim (Contains-append_cases old (n ∷ []) i (subst (λ xs. Contains xs i) e c)) [
    | inl d ↦ let h = (so i).0 d in let below = h.0 in (omega (arith, below), h.1)
    | inr d ↦ elim (contains_cases i n [] d) [
      | inl same ↦ (omega (arith, same), subst (λ k. P (statement_at ws k)) same (is.0 refl))
      | inr none ↦ absurd (contains_none i none)
    ]
  ]),
  (λ h. subst (λ xs. Contains xs i) (sym e) (elim (or_last i n h.0) [
    | inl below ↦ Contains-append_left old (n ∷ []) i ((so i).1 (below, h.1))
    | inr same ↦ Contains-append_right old (n ∷ []) i (subst (Contains (n ∷ [])) (sym same) (contains_here n []))
  ])),
)
one_numbered ws P n false old new is so e i = (
  (λ c. elim (Contains-append_cases old [] i (subst (λ xs. Contains xs i) e c)) [
    | inl d ↦ let h = (so i).0 d in let below = h.0 in (omega (arith, below), h.1)
    | inr d ↦ absurd (contains_none i d)
  ]),
  (λ h. subst (λ xs. Contains xs i) (sym e) (elim (or_last i n h.0) [
    | inl below ↦ Contains-append_left old [] i ((so i).1 (below, h.1))
    | inr same ↦ absurd (let f : false ≡ true = is.1 (subst (λ k. P (statement_at ws k)) same h.1) in cc)
  ])),
)

pub cyclic_so : (ws : List Written) (numbers : List ℕ) → AreOnCycles ws numbers → AreNumbersOf ws (IsCyclic ws) numbers
cyclic_so ws numbers are i = ((λ c. let h = (are i).0 c in (h.0, (h.1, h.2))), (λ h. (are i).1 (h.0, h.1.0, h.1.1)))

-- ---- blockinherits without a target

pub unresolved_is : (ws : List Written) (ts : Targets) (n : ℕ) (b : Bool) → AreAllTargets ws ts → n < length ws → is_inheriting (statement_at ws n).statement.keyword ≡ true
    → (b ≡ true → targets_in ts n ≡ []) → (targets_in ts n ≡ [] → b ≡ true) → IsTrue b ↔ IsUnresolved ws (statement_at ws n)
unresolved_is ws ts n b t h inherits to back = (
  (λ e. (inherits, λ x target. let k = t.all n x h inherits target in contains_none k.0 (subst (λ ks. Contains ks k.0) (to e) k.1))),
  (λ u. back (no_member (targets_in ts n) (λ k c. u.1 (statement_at ws k) (t.named n k c).1))),
) where
  no_member : (ks : List ℕ) → ((k : ℕ) → Contains ks k → ⊥) → ks ≡ []
  no_member [] none = refl
  no_member (k ∷ ks) none = absurd (none k (contains_here k ks))

-- ---- the faults of the blocks

module _ (ws : List Written) where
  abbrev pub IsToldAt : Fault → Type 0
  IsToldAt f =
      (IsToldOf ws (IsDoubled ws) name_fault f ⊎ IsToldOf ws (IsUnresolved ws) (target_fault causes.InheritUnresolved) f)
      ⊎ IsToldOf ws (IsCyclic ws) (target_fault causes.InheritCycle) f

  told_at : AreCycles → (f : Fault) → InheritFault ws f → IsToldAt f
  told_at law f (written_twice v w x cv cw twice same named) = inl (inl (v, cv, in_writing w cw twice same, tells_name v.context.space (named_in_front v.statement.args) x named))
  told_at law f (standing_twice v w n a b x cv cw twice ga ia gb ib named) =
      inl (inl (v, cv, in_contents w n a b cw twice ga ia gb ib, tells_name v.context.space (named_in_front v.statement.args) x named))
  told_at law f (unresolved w word cw inherits front none) =
      inl (inr (w, cw, (inherits, none), tells_word causes.InheritUnresolved w.context.space (first_word w.statement.args) word front))
  told_at law f (cycle w b c word cw inherits front target needed within) =
      inr (
        w,
        cw,
        (inherits, (law ws w cw).1 (record { target = b; is_target = target; block = c; needed = needed; encloses = within })),
        tells_word causes.InheritCycle w.context.space (first_word w.statement.args) word front,
      )

  doubled_at : (v : Written) (x : Named) → Contains ws v → IsDoubled ws v → named_in_front v.statement.args ≡ Some x
      → InheritFault ws (fault_at causes.NameTwice x.at v.context.space x.name)
  doubled_at v x c (in_writing w cw twice same) e = written_twice v w x c cw twice same e
  doubled_at v x c (in_contents w n a b cw twice ga ia gb ib) e = standing_twice v w n a b x c cw twice ga ia gb ib e

  fault_by : AreCycles → (f : Fault) → IsToldAt f → InheritFault ws f
  fault_by law f (inl (inl t)) =
      let n = name_told t.0.context.space (named_in_front t.0.statement.args) f t.3 in subst (InheritFault ws) n.2 (doubled_at t.0 n.0 t.1 t.2 n.1)
  fault_by law f (inl (inr t)) =
      let n = word_told causes.InheritUnresolved t.0.context.space (first_word t.0.statement.args) f t.3 in
      subst (InheritFault ws) n.2 (unresolved t.0 n.0 t.1 t.2.0 n.1 t.2.1)
  fault_by law f (inr t) =
      let n = word_told causes.InheritCycle t.0.context.space (first_word t.0.statement.args) f t.3 in
      let e = (law ws t.0 t.1).0 t.2.1 in
      subst (InheritFault ws) n.2 (cycle t.0 e.target e.block n.0 t.1 t.2.0 n.1 e.is_target e.needed e.encloses)

  all_faults : AreCycles → (o : Option (List Fault)) → AreAllFaults IsToldAt o → AreAllFaults (InheritFault ws) o
  all_faults law o h = all_alike IsToldAt (InheritFault ws) o (fault_by law) (told_at law) h

  pub all_checked : AreCycles → (doubled missing cyclic two three : Option (List Fault)) → AreAllFaults (IsToldOf ws (IsDoubled ws) name_fault) doubled
      → AreAllFaults (IsToldOf ws (IsUnresolved ws) (target_fault causes.InheritUnresolved)) missing
      → AreAllFaults (IsToldOf ws (IsCyclic ws) (target_fault causes.InheritCycle)) cyclic → AreJoined doubled missing two → AreJoined two cyclic three
      → AreAllFaults (InheritFault ws) three
  all_checked law doubled missing cyclic two three d u c one other =
      all_faults law three
      (joined_faults (λ f. IsToldOf ws (IsDoubled ws) name_fault f ⊎ IsToldOf ws (IsUnresolved ws) (target_fault causes.InheritUnresolved) f)
      (IsToldOf ws (IsCyclic ws) (target_fault causes.InheritCycle)) two cyclic three
      (joined_faults (IsToldOf ws (IsDoubled ws) name_fault) (IsToldOf ws (IsUnresolved ws) (target_fault causes.InheritUnresolved)) doubled missing two d u one) c other)

  -- ---- the step

  some_fault : (l : List Fault) → AreFaults (InheritFault ws) l → (f : Fault) × InheritFault ws f
  some_fault [] h = let s = h.some in absurd (omega (arith, s))
  some_fault (f ∷ l) h = (f, (h.listed.members f).0 (contains_here f l))

  of_blocks_alone : (l : List Fault) → AreFaults (InheritFault ws) l → (f : Fault) → InheritStep ws f → InheritFault ws f
  of_blocks_alone l h f (of_blocks g i) = i
  of_blocks_alone l h f (too_many none over) = let s = some_fault l h in absurd (none s.0 s.1)

  pub fails_so : (failure : Failure) → Fails (InheritFault ws) failure → Fails (InheritStep ws) failure
  fails_so (Faults l) h = faults_alike (InheritFault ws) (InheritStep ws) l (λ f i. of_blocks f i) (of_blocks_alone l h) h
  fails_so NoMemory h = h

  pub limit_alone : HasNoFault ws → (f : Fault) → InheritStep ws f → f ≡ limit_fault
  limit_alone none f (of_blocks g i) = absurd (none f i)
  limit_alone none f (too_many other over) = refl

  pub over_so : (l : List Fault) → HasNoFault ws → IsOver standing_cmp (Stands ws) most_instances → AreFaults (λ f. f ≡ limit_fault) l → AreFaults (InheritStep ws) l
  over_so l none over h =
      faults_alike (λ f. f ≡ limit_fault) (InheritStep ws) l (λ f e. subst (InheritStep ws) (sym e) (too_many none over)) (limit_alone none) h

  pub no_step : HasNoFault ws → (IsOver standing_cmp (Stands ws) most_instances → ⊥) → (f : Fault) → InheritStep ws f → ⊥
  no_step none few f (of_blocks g i) = none f i
  no_step none few f (too_many other over) = few over

-- ---- the fault of the limit

limit_is : (space word : List ℕ) → space ≡ [] → word ≡ [] → record { code = causes.ExpansionLimit; «module» = 0; at = 0; space = space; word = word } ≡ limit_fault
limit_is space word e f = λ i. record { code = causes.ExpansionLimit; «module» = 0; at = 0; space = e i; word = f i }

pub limit_listed : (l none faults : List Fault) (space word : List ℕ) → none ≡ [] → space ≡ [] → word ≡ []
    → faults ≡ none ++ record { code = causes.ExpansionLimit; «module» = 0; at = 0; space = space; word = word } ∷ [] → AreFaults (Contains faults) l
    → AreFaults (λ f. f ≡ limit_fault) l
limit_listed l none faults space word n e f is h =
    faults_alike (Contains faults) (λ g. g ≡ limit_fault) l (λ g c. alone g (subst (λ xs. Contains xs g) (is ∙ ap (λ xs. xs ++ given ∷ []) n) c))
    (λ g same. subst (λ xs. Contains xs g) (sym (is ∙ ap (λ xs. xs ++ given ∷ []) n)) (subst (Contains (given ∷ [])) (limit_is space word e f ∙ sym same) (contains_here given [])))
    h where
      given : Fault
      given = record { code = causes.ExpansionLimit; «module» = 0; at = 0; space = space; word = word }

      alone : (g : Fault) → Contains (given ∷ []) g → g ≡ limit_fault
      alone g c = elim (contains_cases g given [] c) [ inl e' ↦ sym e' ∙ limit_is space word e f | inr d ↦ absurd (contains_none g d) ]

-- ---- what is handed on

pub is_none : {X : Type 0} (P : Type 0) (o : Option X) → o ≡ None → IfNone o P → P
is_none P None e h = h
is_none P (Some x) e h = absurd (none_some x (sym e))

pub is_some : {X : Type 0} (P : X → Type 0) (o : Option X) (x : X) → o ≡ Some x → IfSome o P → P x
is_some P o x e h = subst (λ p. IfSome p P) e h

-- ---- what stands

pub standing_total : IsTotalOrder standing_cmp
standing_total = on_total (λ s. s.trail) (then_total (on_total length nat_cmp_total) (lists_total spot_total))

pub are_contents : (ss : List Statement) (es : List Entry) → IsNested ss → HasNoFault (program_of ss)
    → (HasNoFault (program_of ss) → Lists standing_cmp (Stands (program_of ss)) (standings_of (program_of ss) es)) → length es ≤ most_instances → AreContents ss es
are_contents ss es nested none all few = record { nested = nested; lawful = none; standings = all none; few = few }

pub no_more : (ss : List Statement) (es : List Entry) → AreContents ss es → (f : Fault) → InheritStep (program_of ss) f → ⊥
no_more ss es c =
    let l = standings_length (program_of ss) es in
    let few = c.few in
    no_step (program_of ss) c.lawful
    (not_over standing_cmp standing_total (Stands (program_of ss)) (standings_of (program_of ss) es) most_instances c.standings (omega (arith, l, few)))
