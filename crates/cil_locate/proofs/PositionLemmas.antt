-- One byte more before a place.
use Rattle.std.proofs.Common.{◌≡◌, ◌≢◌, ◌+◌, ◌≤◌, ℕ, zero, suc, Bool, true, false, List, length, refl, sym, ◌∙◌, ap, add-one, arith}
use Rattle.std.specs.Prelude.{slice_index, ◌==◌, if◌then◌else◌}
use Rattle.cil_sexpr.specs.Bytes.{newline}
use Rattle.cil_sexpr.specs.Text.{longest_text}
use Rattle.cil_locate.proofs.ByteLemmas.{eqb_at, eqb_not}
use Rattle.cil_locate.specs.Lines.{place_in}
use Rattle.cil_locate.specs.Positions.{IsSmall, line_start, newlines, position_of}
use Rattle.cil_locate.specs.declared.position.Position.{Position}

-- nothing is before the start of a text
pub at_start : (text : List ℕ) → record { at = 0; newlines = 0; begin = 0 } ≡ position_of text 0
unfolding newlines line_start
at_start text = refl

pub newlines_more : (text : List ℕ) (k : ℕ) → newlines text (k + 1) ≡ newlines text k + (if slice_index text k == newline then 1 else 0)
unfolding newlines
newlines_more text k = rw add-one

pub start_more : (text : List ℕ) (k : ℕ) → line_start text (k + 1) ≡ (if slice_index text k == newline then k + 1 else line_start text k)
unfolding line_start
start_more text k = rw add-one

-- there are no more newlines than bytes
pub few_newlines : (text : List ℕ) (k : ℕ) → newlines text k ≤ k
unfolding newlines
few_newlines text zero = omega arith
few_newlines text (suc k) = more (slice_index text k == newline) (few_newlines text k)
  where
    more : (b : Bool) → newlines text k ≤ k → newlines text k + (if b then 1 else 0) ≤ suc k
    more true h = omega (arith, h)
    more false h = omega (arith, h)

-- a line begins at one of its bytes or before
pub start_before : (text : List ℕ) (k : ℕ) → line_start text k ≤ k
unfolding line_start
start_before text zero = omega arith
start_before text (suc k) = more (slice_index text k == newline) (start_before text k)
  where
    more : (b : Bool) → line_start text k ≤ k → (if b then suc k else line_start text k) ≤ suc k
    more true h = omega arith
    more false h = omega (arith, h)

-- what is known of the bytes before a place
abbrev pub Counts : List ℕ → ℕ → ℕ → ℕ → Type 0
Counts text place lines begin = (lines ≡ newlines text place) × (begin ≡ line_start text place) × (lines ≤ place)

pub newline_passed : (text : List ℕ) (place lines begin lines_now begin_now : ℕ) → slice_index text place ≡ newline → Counts text place lines begin
    → lines_now ≡ lines + 1 → begin_now ≡ place + 1 → Counts text (place + 1) lines_now begin_now
newline_passed text place lines begin lines_now begin_now is c e h =
    let test : (slice_index text place == newline) ≡ true = eqb_at _ _ is in (
      e ∙ ap (λ n. n + 1) c.0 ∙ ap (λ b. newlines text place + (if b then 1 else 0)) (sym test) ∙ sym (newlines_more text place),
      h ∙ ap (λ b. if b then place + 1 else line_start text place) (sym test) ∙ sym (start_more text place),
      omega (arith, e, c.2),
    )

pub byte_passed : (text : List ℕ) (place lines begin lines_now begin_now : ℕ) → slice_index text place ≢ newline → Counts text place lines begin
    → lines_now ≡ lines → begin_now ≡ begin → Counts text (place + 1) lines_now begin_now
byte_passed text place lines begin lines_now begin_now other c e h =
    let test : (slice_index text place == newline) ≡ false = eqb_not _ _ other in (
      e ∙ c.0 ∙ none _ ∙ ap (λ b. newlines text place + (if b then 1 else 0)) (sym test) ∙ sym (newlines_more text place),
      h ∙ c.1 ∙ ap (λ b. if b then place + 1 else line_start text place) (sym test) ∙ sym (start_more text place),
      omega (arith, e, c.2),
    )
  where
    none : (n : ℕ) → n ≡ n + 0
    none n = omega arith

-- a place of a text is small
pub small_position : (text : List ℕ) (p : Position) → p ≡ position_of text p.at → p.at ≤ length text → length text ≤ suc longest_text → IsSmall p
small_position text p here within short =
    let few = few_newlines text p.at in record {
      newlines = rw (ap (λ (q : Position). q.newlines) here) (omega (arith, few, within, short));
      begin = rw (ap (λ (q : Position). q.begin) here) (start_before text p.at);
      at = omega (arith, within, short);
    }

-- so is a place that is sought in it
pub small_place : (text : List ℕ) (p : Position) (at : ℕ) → p ≡ position_of text (place_in text at) → length text ≤ suc longest_text → IsSmall p
small_place text p at here short = small_position text p (here ∙ ap (position_of text) (sym place)) (rw place (omega arith)) short
  where
    place : p.at ≡ place_in text at
    place = ap (λ (q : Position). q.at) here
