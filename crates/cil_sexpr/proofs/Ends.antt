-- Words, strings and comments have ends.
use Rattle.std.proofs.Common.{◌≡◌, ◌≢◌, ℕ, zero, suc, ◌+◌, ◌-◌, ◌<◌, ◌≤◌, ◌⊎◌, List, length, inl, inr, refl, subst, arith}
use Rattle.std.specs.Prelude.{slice_index}
use Rattle.std.proofs.lemmas.Bool.Decides.{eqb_tells}
use Rattle.cil_sexpr.specs.Bytes.{left_bracket, right_bracket, double_quote, semicolon, newline, IsBlank, IsWordByte, IsBadByte, HasByte}
use Rattle.cil_sexpr.specs.Text.{IsWord, IsString, IsComment}

-- what a byte is
is_or_not : (a b : ℕ) → (a ≡ b) ⊎ (a ≢ b)
is_or_not a b = elim (eqb_tells a b) [ inl e ↦ inl e.1 | inr n ↦ inr n.1 ]

apart : (a b : ℕ) → a ≢ b → (a < b) ⊎ (b < a)
apart a b n = grind arith

pub data Kind (b : ℕ) : Type 0 where
  is_blank : IsBlank b → Kind b
  is_semicolon : b ≡ semicolon → Kind b
  is_quote : b ≡ double_quote → Kind b
  is_left : b ≡ left_bracket → Kind b
  is_right : b ≡ right_bracket → Kind b
  is_word_byte : IsWordByte b → Kind b
  is_bad : IsBadByte b → Kind b

split : (b : ℕ) → (IsBlank b ⊎ ((b ≡ semicolon) ⊎ (b ≡ double_quote))) ⊎ (((b ≡ left_bracket) ⊎ (b ≡ right_bracket)) ⊎ (IsWordByte b ⊎ IsBadByte b))
split b = grind arith

pub kind : (b : ℕ) → Kind b
kind b = elim (split b) [
  | inl first ↦ elim first [ inl x ↦ is_blank x | inr more ↦ elim more [ inl x ↦ is_semicolon x | inr x ↦ is_quote x ] ]
  | inr rest ↦ elim rest [
    | inl mark ↦ elim mark [ inl x ↦ is_left x | inr x ↦ is_right x ]
    | inr other ↦ elim other [ inl x ↦ is_word_byte x | inr x ↦ is_bad x ]
  ]
]

-- the longest run of what has a property that can be decided
record Run (P : ℕ → Type 0) (text : List ℕ) (from end : ℕ) : Type 0 where
  onward : from ≤ end
  within : end ≤ length text
  inside : (k : ℕ) → from ≤ k → k < end → P (slice_index text k)
  longest : end < length text → P (slice_index text end) → ⊥

module _ (P : ℕ → Type 0) (decide : (b : ℕ) → P b ⊎ (P b → ⊥)) (text : List ℕ) where
  run : (n from : ℕ) → from + n ≡ length text → (end : ℕ) × Run P text from end
  run zero from e = (from, record { onward = omega arith; within = omega arith; inside = λ k a b. absurd (omega arith); longest = λ h p. omega arith })
  run (suc n) from e = elim (decide (slice_index text from)) [
    | inl p ↦ (let more = run n (from + 1) (omega arith) in (
      more.0,
      record {
        onward = let on = more.1.onward in omega arith;
        within = more.1.within;
        inside = λ k a b. elim (is_or_not from k) [
          | inl same ↦ subst (λ j. P (slice_index text j)) same p
          | inr other ↦ more.1.inside k (omega arith) b
        ];
        longest = more.1.longest;
      },
    ))
    | inr q ↦ (from, record { onward = omega arith; within = omega arith; inside = λ k a b. absurd (omega arith); longest = λ h p. q p })
  ]

is_word_or_not : (b : ℕ) → IsWordByte b ⊎ (IsWordByte b → ⊥)
is_word_or_not b = grind arith

pub word_end : (text : List ℕ) (at : ℕ) → at < length text → IsWordByte (slice_index text at) → (end : ℕ) × IsWord text at end
word_end text at within b =
    let r = run IsWordByte is_word_or_not text (length text - at) at (omega arith) in
    (r.0, record { some = begins r.0 r.1; within = r.1.within; inside = r.1.inside; longest = r.1.longest })
  where
    begins : (end : ℕ) → Run IsWordByte text at end → at < end
    begins end r = elim (is_or_not at end) [
      | inl same ↦ absurd (r.longest (subst (λ k. k < length text) same within) (subst (λ k. IsWordByte (slice_index text k)) same b))
      | inr other ↦ (let on = r.onward in omega arith)
    ]

no_newline_or : (b : ℕ) → (b ≢ newline) ⊎ ((b ≢ newline) → ⊥)
no_newline_or b = elim (is_or_not b newline) [ inl e ↦ inr (λ n. n e) | inr n ↦ inl n ]

pub comment_end : (text : List ℕ) (at : ℕ) → HasByte text at semicolon → (end : ℕ) × IsComment text at end
comment_end text at opens = by (run (λ b. b ≢ newline) no_newline_or text (length text - (at + 1)) (at + 1) (omega arith))
  where
    last : (end : ℕ) → Run (λ b. b ≢ newline) text (at + 1) end → end < length text → slice_index text end ≡ newline
    last end r h = elim (is_or_not (slice_index text end) newline) [ inl e ↦ e | inr n ↦ absurd (r.longest h n) ]

    by : (end : ℕ) × Run (λ b. b ≢ newline) text (at + 1) end → (end : ℕ) × IsComment text at end
    by (end, r) = let on = r.onward in let within = r.within in elim (is_or_not end (length text)) [
      | inl e ↦ (
        end,
        record {
          opens = opens;
          some = omega arith;
          within = within;
          inside = λ k a b. r.inside k (omega arith) (omega arith);
          ends = λ k f h. absurd (omega arith);
        },
      )
      | inr n ↦ (let h : end < length text = omega arith in (
        end + 1,
        record {
          opens = opens;
          some = omega arith;
          within = omega arith;
          inside = λ k a b. r.inside k (omega arith) (omega arith);
          ends = λ k f g. subst (λ j. slice_index text j ≡ newline) (omega arith) (last end r h);
        },
      ))
    ]

-- a string, or none
IsOpen : ℕ → Type 0
IsOpen b = (b ≢ double_quote) × (b ≢ newline)

is_open_or : (b : ℕ) → IsOpen b ⊎ (IsOpen b → ⊥)
unfolding IsOpen
is_open_or b = elim (is_or_not b double_quote) [
  | inl e ↦ inr (λ o. o.0 e)
  | inr n ↦ elim (is_or_not b newline) [ inl e ↦ inr (λ o. o.1 e) | inr m ↦ inl (n, m) ]
]

pub string_end : (text : List ℕ) (at : ℕ) → HasByte text at double_quote → ((end : ℕ) × IsString text at end) ⊎ ((end : ℕ) → IsString text at end → ⊥)
unfolding IsOpen
string_end text at opens = by (run IsOpen is_open_or text (length text - (at + 1)) (at + 1) (omega arith))
  where
    quote_before : (stop end : ℕ) → Run IsOpen text (at + 1) stop → IsString text at end → stop ≡ length text → ⊥
    quote_before stop end r s e =
        let closes = s.closes in let after = s.after in (r.inside s.last (omega arith) (omega arith)).0 closes.1

    line_before : (stop end : ℕ) → Run IsOpen text (at + 1) stop → slice_index text stop ≢ double_quote → slice_index text stop ≡ newline → IsString text at end → ⊥
    line_before stop end r q l s =
        let closes = s.closes in let after = s.after in let on = r.onward in
        elim (is_or_not s.last stop) [
          | inl e ↦ q (subst (λ k. slice_index text k ≡ double_quote) e closes.1)
          | inr n ↦ (let sides : (s.last < stop) ⊎ (stop < s.last) = apart s.last stop n in elim sides [
            | inl h ↦ (r.inside s.last (omega arith) h).0 closes.1
            | inr h ↦ (s.inside stop (omega arith) h).1 l
          ])
        ]

    by : (stop : ℕ) × Run IsOpen text (at + 1) stop → ((end : ℕ) × IsString text at end) ⊎ ((end : ℕ) → IsString text at end → ⊥)
    by (stop, r) = let on = r.onward in let within = r.within in elim (is_or_not stop (length text)) [
      | inl e ↦ inr (λ end s. quote_before stop end r s e)
      | inr n ↦ (let h : stop < length text = omega arith in elim (is_or_not (slice_index text stop) double_quote) [
        | inl q ↦ inl (stop + 1, record { opens = opens; last = stop; ends = refl; closes = (h, q); after = omega arith; inside = λ k a b. r.inside k (omega arith) b })
        | inr q ↦ elim (is_or_not (slice_index text stop) newline) [
          | inl l ↦ inr (λ end s. line_before stop end r q l s)
          | inr m ↦ absurd (r.longest h (q, m))
        ]
      ])
    ]
