-- What is known of the loaded policy.
use Rattle.std.specs.Prelude.{Option, Some, None, IfSome, IfNone}
use Rattle.std.specs.Option.{option_map, unwrap_or}
use Rattle.std.proofs.Common.{◌≡◌, ℕ, List, sym, ◌∙◌, ap, subst}
use Rattle.cil_table_bytes.specs.tables.CompileAnswer.{IsCompiled}
use Rattle.cil_table_bytes.specs.optionals.Lines.{AreOptionalsOf, AreReasonsOf}
use Rattle.cil_table_bytes.specs.optionals.OptionalLine.{OptionalLine}
use Rattle.cil_table_bytes.specs.optionals.WhyLine.{WhyLine}
use Rattle.cil_host.specs.declared.host.Policy.{Policy}
use Rattle.cil_host.specs.Machine.{Accepted, AreOptionalLines, AreWhyLines, IsKept, OfAccepted, OfLoaded, State, accepted_of}

pub kept : (o : Option Policy) (p : Policy) → o ≡ Some p → IsKept o → IsCompiled p.modules p.compiled
kept o p e k = subst IsKept e k

pub accepted_fact : (h : State) (m : List (List ℕ)) (v : List ℕ) (o : Option Policy) (p : Policy) → h ≡ record { modules = m; loaded = option_map (accepted_of v) o } → o ≡ Some p
    → (holds : Accepted → Type 0) → holds (accepted_of v p) → OfAccepted h holds
accepted_fact h m v o p view is holds fact = record {
  accepted = accepted_of v p;
  is_loaded = ap (λ s. s.loaded) view ∙ ap (option_map (accepted_of v)) is;
  fact = fact;
}

pub loaded_fact : (h : State) (m : List (List ℕ)) (v : List ℕ) (o : Option Policy) (p : Policy) → h ≡ record { modules = m; loaded = option_map (accepted_of v) o } → o ≡ Some p
    → (holds : List (List ℕ) → Type 0) → holds p.modules → OfLoaded h holds
loaded_fact h m v o p view is holds fact = accepted_fact h m v o p view is (λ a. holds a.modules) fact

pub fact_loaded : (h : State) (m : List (List ℕ)) (v : List ℕ) (o : Option Policy) (p : Policy) → h ≡ record { modules = m; loaded = option_map (accepted_of v) o } → o ≡ Some p
    → (holds : List (List ℕ) → Type 0) → OfLoaded h holds → holds p.modules
fact_loaded h m v o p view is holds of =
    let one : Some of.accepted ≡ Some (accepted_of v p) = sym of.is_loaded ∙ ap (λ s. s.loaded) view ∙ ap (option_map (accepted_of v)) is in
    subst (λ a. holds a.modules) (ap (λ q. unwrap_or q of.accepted) one) of.fact

-- where no policy is kept, nothing holds of the loaded modules
pub none_loaded : (h : State) (m : List (List ℕ)) (v : List ℕ) (o : Option Policy) → h ≡ record { modules = m; loaded = option_map (accepted_of v) o } → o ≡ None
    → (holds : List (List ℕ) → Type 0) → OfLoaded h holds → ⊥
none_loaded h m v o view is holds of =
    let one : Some of.accepted ≡ None = sym of.is_loaded ∙ ap (λ s. s.loaded) view ∙ ap (option_map (accepted_of v)) is in absurd cc

-- the kept lines are those of the modules
pub optional_lines : (p : Policy) → IsCompiled p.modules p.compiled → (lines : List OptionalLine) → lines ≡ p.compiled.optionals.items → AreOptionalLines lines p.modules
optional_lines p is lines same = record {
  items = is.items;
  enabled = is.enabled;
  policy = is.policy;
  are_lines = subst (AreOptionalsOf is.items is.enabled) (sym same) is.optionals;
}

pub why_lines : (v : List ℕ) (p : Policy) → IsCompiled p.modules p.compiled → (lines : List WhyLine) → lines ≡ p.compiled.reasons.items → AreWhyLines lines (accepted_of v p)
why_lines v p is lines same = record {
  items = is.items;
  enabled = is.enabled;
  policy = is.policy;
  right = is.right;
  first = is.first;
  are_lines = subst (AreReasonsOf is.items p.compiled.why.items) (sym same) is.reasons;
}

pub if_some : {X : Type 0} {P Q : X → Type 0} (o : Option X) → ((x : X) → P x → Q x) → IfSome o P → IfSome o Q
if_some (Some x) f p = f x p
if_some None f p = p

pub if_none : {X : Type 0} {P Q : Type 0} (o : Option X) → (P → Q) → IfNone o P → IfNone o Q
if_none (Some x) f p = p
if_none None f p = f p
