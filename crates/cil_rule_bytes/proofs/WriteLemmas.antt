-- What is written of rules are their bytes.
use Rattle.std.specs.Prelude.{OnOk, Result, Ok, Err, Option, None, Some}
use Rattle.std.specs.List.{flat_map}
use Rattle.std.specs.Int.{w16, w32, to_be_bytes}
use Rattle.std.proofs.Common.{◌≡◌, ℕ, Bool, true, false, List, [], ◌∷◌, ◌++◌, length, refl, sym, ap, subst, ◌∙◌, append_assoc}
use Rattle.cil_base.specs.declared.memory.NoMemory.{NoMemory}
use Rattle.cil_conditions.specs.declared.branch.Branch.{Branch}
use Rattle.cil_conditions.specs.declared.token.Token.{Token}
use Rattle.cil_format.specs.Fields.{set}
use Rattle.cil_format.proofs.OutLemmas.{two_pieces}
use Rattle.cil_index.specs.Sections.{RuleSections}
use Rattle.cil_index.specs.rules.Rule.{Rule, Target, Types, Itself}
use Rattle.cil_rule_bytes.specs.Layout.{Limits, branch, condition, rule, rules, rule_sections, target}
use Rattle.cil_rule_bytes.specs.Spelled.{branch_bytes, rule_bytes}

-- some bytes, and then others
pub behind : (r : Result (Unit {0}) NoMemory) (old one mid two new : List ℕ) → mid ≡ old ++ one → OnOk r (new ≡ mid ++ two) → OnOk r (new ≡ old ++ (one ++ two))
behind (Ok x) old one mid two new e f = f ∙ ap (λ (w : List ℕ). w ++ two) e ∙ append_assoc old one two
behind (Err x) old one mid two new e f = tt

-- five parts, one behind the other
pub five_parts : (out a b c d e one two three four five : List ℕ) → one ≡ out ++ a → two ≡ one ++ b → three ≡ two ++ c → four ≡ three ++ d → five ≡ four ++ e
    → five ≡ out ++ (a ++ (b ++ (c ++ (d ++ e))))
five_parts out a b c d e one two three four five p q r s t =
    t ∙ ap (λ (w : List ℕ). w ++ e) (s ∙ ap (λ (w : List ℕ). w ++ d) (r ∙ ap (λ (w : List ℕ). w ++ c) (q ∙ ap (λ (w : List ℕ). w ++ b) p)))
    ∙ append_assoc (((out ++ a) ++ b) ++ c) d e ∙ append_assoc ((out ++ a) ++ b) c (d ++ e) ∙ append_assoc (out ++ a) b (c ++ (d ++ e)) ∙ append_assoc out a (b ++ (c ++ (d ++ e)))

-- ---- the bytes of a rule, part by part

some_spelled : (booleans : ℕ) (ts : List Token) (v : Bool) → (branch booleans).spell (Some (record { condition = ts; value = v })) ≡ branch_bytes (Some (record { condition = ts; value = v }))
unfolding condition
some_spelled booleans ts true = refl
some_spelled booleans ts false = refl

branch_spelled : (booleans : ℕ) (b : Option Branch) → (branch booleans).spell b ≡ branch_bytes b
branch_spelled booleans None = refl
branch_spelled booleans (Some b) = some_spelled booleans b.condition b.value

target_spelled : (types : ℕ) (t : Target) → (target types).spell t ≡ (target 0).spell t
target_spelled types (Types ns) = refl
target_spelled types Itself = refl

module _ (limits : Limits) where
  pub rule_spelled : (r : Rule) → rule_bytes r ≡ (rule limits).spell r
  rule_spelled r =
      ap (λ (w : List ℕ). w ++ ((set 0).spell r.source ++ ((target 0).spell r.target ++ (to_be_bytes w16 r.class ++ to_be_bytes w32 r.mask))))
      (sym (branch_spelled limits.booleans r.branch))
      ∙ ap (λ (w : List ℕ). (branch limits.booleans).spell r.branch ++ ((set 0).spell r.source ++ (w ++ (to_be_bytes w16 r.class ++ to_be_bytes w32 r.mask))))
      (sym (target_spelled limits.types r.target))

  all_spelled : (rs : List Rule) → flat_map rule_bytes rs ≡ flat_map (rule limits).spell rs
  all_spelled [] = refl
  all_spelled (r ∷ rs) = ap (λ (w : List ℕ). w ++ flat_map rule_bytes rs) (rule_spelled r) ∙ ap (λ (w : List ℕ). (rule limits).spell r ++ w) (all_spelled rs)

-- the count and all rules are the section
pub section_put : {X : Type 0} (holds : X → List ℕ → Type 0) (limits : Limits) (rs : List Rule) (x : X) (before : List ℕ)
    → holds x ((before ++ to_be_bytes w32 (length rs)) ++ flat_map rule_bytes rs) → holds x (before ++ (rules limits).spell rs)
section_put holds limits rs x before put =
    two_pieces holds x before (to_be_bytes w32 (length rs)) (flat_map rule_bytes rs) ((rules limits).spell rs)
    (ap (λ (w : List ℕ). to_be_bytes w32 (length rs) ++ w) (sym (all_spelled limits rs))) put

-- three sections are put, one behind the other
pub sections_put : {X : Type 0} (holds : X → List ℕ → Type 0) (limits : Limits) (s : RuleSections) (a b d : List Rule) (r : Result (Unit {0}) NoMemory) (x : X) (before : List ℕ)
    → a ≡ s.allow → b ≡ s.auditallow → d ≡ s.dontaudit → OnOk r (holds x (((before ++ (rules limits).spell a) ++ (rules limits).spell b) ++ (rules limits).spell d))
    → OnOk r (holds x (before ++ (rule_sections limits).spell s))
unfolding rule_sections
sections_put holds limits s a b d r x before ea eb ed put =
    let spell = (rules limits).spell in
    subst (λ (w : List ℕ). OnOk r (holds x w))
    (append_assoc (before ++ spell a) (spell b) (spell d) ∙ append_assoc before (spell a) (spell b ++ spell d) ∙ ap (λ (w : List Rule). before ++ (spell w ++ (spell b ++ spell d))) ea
    ∙ ap (λ (w : List Rule). before ++ (spell s.allow ++ (spell w ++ spell d))) eb ∙ ap (λ (w : List Rule). before ++ (spell s.allow ++ (spell s.auditallow ++ spell w))) ed) put
