-- What is told of blocks, and where.
use Rattle.std.proofs.Common.{◌≡◌, ℕ, List, [], ◌∷◌, ◌++◌, map, refl, sym, ◌∙◌, ap, subst, inl, inr, append-nil}
use Rattle.std.specs.Prelude.{◌↔◌, Contains, None, reverse}
use Rattle.std.specs.List.{flat_map}
use Rattle.std.proofs.lemmas.List.{map-append, reverse-append}
use Rattle.std.proofs.lemmas.List.Elements.{Contains-append_left, Contains-append_right, Contains-append_cases}
use denote.Ref.{Bor}
use Rattle.cil_base.specs.Lists.{contains_cases, contains_here, contains_later, contains_none}
use Rattle.cil_faults.specs.declared.code.FaultCode.{FaultCode}
use Rattle.cil_faults.specs.declared.fault.Fault.{Fault}
use Rattle.cil_syntax.specs.declared.term.Word.{Word}
use Rattle.cil_syntax.specs.Around.{names_of}
use Rattle.cil_syntax.specs.Forms.{name_in_front}
use Rattle.cil_syntax.specs.Terms.{Leaf, Name, Form, Terms, nil, cons}
use Rattle.cil_syntax.specs.Written.{Written, named_in_front}
use Rattle.cil_blocks.specs.Contents.{first_word}
use Rattle.cil_blocks.specs.Entries.{nothing, statement_at}
use Rattle.cil_blocks.specs.Reports.{AreNumbersOf, IsToldOf, fault_of_name, fault_of_word, name_fault, target_fault}
use Rattle.cil_base.specs.Places.{get_at, get_contains, get_so, is_there, none_some}

-- ---- lists

reversed : {X Y : Type 0} (f : X → Y) (xs : List X) → map f (reverse xs) ≡ reverse (map f xs)
reversed f [] = refl
reversed f (x ∷ xs) =
    ap (map f) (reverse-append (x ∷ []) xs) ∙ map-append f (reverse xs) (x ∷ []) ∙ ap (λ ys. ys ++ f x ∷ []) (reversed f xs)
    ∙ sym (reverse-append (f x ∷ []) (map f xs))

pub names_reversed : (names : List (Bor (List ℕ))) → names_of (reverse names) ≡ reverse (names_of names)
names_reversed names = reversed (λ (b : Bor (List ℕ)). b.now) names

-- ---- the faults of one statement

nothing_named : (args : Terms Word) → name_in_front args ≡ None → named_in_front args ≡ None
nothing_named nil e = refl
nothing_named (cons (Leaf w) ts) e = refl
nothing_named (cons (Name at name) ts) e = absurd (none_some name (sym e))
nothing_named (cons (Form at op parts) ts) e = refl

pub no_name_fault : (w : Written) → name_in_front w.statement.args ≡ None → name_fault w ≡ []
no_name_fault w e = ap (fault_of_name w.context.space) (nothing_named w.statement.args e)

pub no_target_fault : (code : FaultCode) (w : Written) → first_word w.statement.args ≡ None → target_fault code w ≡ []
no_target_fault code w e = ap (fault_of_word code w.context.space) e

pub none_added : {X : Type 0} (xs ys : List X) → ys ≡ [] → xs ≡ xs ++ ys
none_added xs ys e = sym (append-nil xs) ∙ ap (λ zs. xs ++ zs) (sym e)

-- ---- the faults of some statements

pub told_at : {Y : Type 0} (f : ℕ → List Y) (ks : List ℕ) (y : Y) → Contains (flat_map f ks) y → (k : ℕ) × Contains ks k × Contains (f k) y
told_at f [] y c = absurd (contains_none y c)
told_at f (k ∷ ks) y c =
    elim (Contains-append_cases (f k) (flat_map f ks) y c) [
      | inl d ↦ (k, contains_here k ks, d)
      | inr d ↦ let r = told_at f ks y d in (r.0, contains_later r.0 k ks r.1, r.2)
    ]

pub at_told : {Y : Type 0} (f : ℕ → List Y) (ks : List ℕ) (k : ℕ) (y : Y) → Contains ks k → Contains (f k) y → Contains (flat_map f ks) y
at_told f [] k y c d = absurd (contains_none k c)
at_told f (j ∷ ks) k y c d =
    elim (contains_cases k j ks c) [
      | inl e ↦ Contains-append_left (f j) (flat_map f ks) y (subst (λ n. Contains (f n) y) (sym e) d)
      | inr m ↦ Contains-append_right (f j) (flat_map f ks) y (at_told f ks k y m d)
    ]

module _ (ws : List Written) (P : Written → Type 0) (told : Written → List Fault) where
  -- told at the numbers of a kind is told of the statements of the kind
  pub told_so : (numbers : List ℕ) → AreNumbersOf ws P numbers → (f : Fault) → Contains (flat_map (λ i. told (statement_at ws i)) numbers) f ↔ IsToldOf ws P told f
  told_so numbers are f = (
    (λ c.
        let r = told_at (λ i. told (statement_at ws i)) numbers f c in
        let n = (are r.0).0 r.1 in
        (statement_at ws r.0, get_contains ws r.0 (statement_at ws r.0) (is_there ws r.0 nothing n.0), n.1, r.2)),
    (λ t.
        let g = get_at ws t.0 t.1 in
        let same : statement_at ws g.0 ≡ t.0 = get_so ws g.0 t.0 nothing g.2 in
        at_told (λ i. told (statement_at ws i)) numbers g.0 f ((are g.0).1 (g.1, subst P (sym same) t.2)) (subst (λ w. Contains (told w) f) (sym same) t.3)),
  )
