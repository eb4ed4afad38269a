-- What a byte is, as a test and as a fact.
use Rattle.std.proofs.Common.{◌≡◌, ◌≢◌, ℕ, true, false, true≢false, sym, ◌∙◌, ap, inl, inr}
use Rattle.std.specs.Prelude.{◌==◌, not}
use Rattle.std.proofs.lemmas.Bool.Decides.{eqb_tells}
use Rattle.cil_sexpr.specs.Bytes.{newline}
use Rattle.cil_locate.specs.Windows.{is_in_line}

pub eqb_at : (a b : ℕ) → a ≡ b → (a == b) ≡ true
eqb_at a b e = elim (eqb_tells a b) [ inl t ↦ t.0 | inr f ↦ absurd (f.1 e) ]

pub eqb_not : (a b : ℕ) → a ≢ b → (a == b) ≡ false
eqb_not a b other = elim (eqb_tells a b) [ inl t ↦ absurd (other t.1) | inr f ↦ f.0 ]

-- the end of a line is not in it, and each other byte is
pub newline_ends : (b : ℕ) → b ≡ newline → is_in_line b ≡ false
newline_ends b e = ap not (eqb_at b newline e)

pub other_goes_on : (b : ℕ) → b ≢ newline → is_in_line b ≡ true
other_goes_on b other = ap not (eqb_not b newline other)

pub eqb_is : (a b : ℕ) → (a == b) ≡ true → a ≡ b
eqb_is a b e = elim (eqb_tells a b) [ inl t ↦ t.1 | inr f ↦ absurd (true≢false (sym e ∙ f.0)) ]

pub eqb_other : (a b : ℕ) → (a == b) ≡ false → a ≢ b
eqb_other a b e = elim (eqb_tells a b) [ inl t ↦ absurd (true≢false (sym t.0 ∙ e)) | inr f ↦ f.1 ]
