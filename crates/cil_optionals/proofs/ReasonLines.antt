-- The lines of reasons.
use Rattle.std.proofs.Common.{◌≡◌, ℕ, zero, suc, ◌+◌, ◌≤◌, ◌<◌, Bool, true, false, List, [], ◌∷◌, ◌++◌, Option, Some, length, get_or, take, refl, sym, ◌∙◌, ap, subst, arith}
use Rattle.std.specs.Prelude.{◌||◌, map, slice_get}
use Rattle.std.specs.Option.{option_map_or}
use Rattle.std.proofs.lemmas.List.{get_or-map, length-map, take_more, take_all}
use Rattle.cil_base.specs.Places.{in_range}
use Rattle.cil_syntax.specs.declared.program.Statement.{Statement}
use Rattle.cil_faults.specs.declared.spot.Spot.{Spot}
use Rattle.cil_syntax.specs.Program.{statement_of}
use Rattle.cil_syntax.specs.Said.{args_of}
use Rattle.cil_syntax.specs.Written.{bytes_of, named_in_front}
use Rattle.cil_faults.specs.Namespaces.{qualified}
use Rattle.cil_blocks.specs.Contents.{is_optional}
use Rattle.cil_macros.specs.Item.{Item, OptSet}
use Rattle.cil_macros.specs.Items.{Kept, item_at, items_in, placed_at}
use Rattle.cil_macros.proofs.ItemLemmas.{item_there}
use Rattle.cil_base.specs.Among.{among, among_at}
use Rattle.cil_optionals.specs.declared.reason.Reason.{Reason}
use Rattle.cil_optionals.specs.declared.reason.Reason.TheVariants.{Missing, ParentOut}
use Rattle.cil_optionals.specs.Certificate.{left_out, Holds, missing, InOrder, one_more, IsRight}
use Rattle.cil_optionals.specs.declared.lines.WhyLine.{WhyLine}
use Rattle.cil_optionals.specs.Lines.{AreReasonsOf, IsReasonLine, label_of, missing_of, no_reason, one_reason, why_line}
use Rattle.cil_optionals.specs.Greatest.{is_optional_at}
use Rattle.cil_optionals.specs.Told.{HasStatement, IsOfItems}
use Rattle.cil_macros.proofs.ItemsThere.{keyword_there}
use Rattle.cil_optionals.proofs.LineLemmas.{label_there}

-- ---- one reason

-- an optional is one of the items
pub optional_within : (xs : List Item) (o : ℕ) → is_optional_at xs o ≡ true → o < length xs
optional_within [] o e = absurd (let f : false ≡ true = e in cc)
optional_within (x ∷ xs) zero e = omega arith
optional_within (x ∷ xs) (suc o) e = let h = optional_within xs o e in omega (arith, h)

-- the item at its place is an optional
pub optional_here : (i : Kept) (at : ℕ) → is_optional_at (items_in i) at ≡ true → is_optional (item_at i at).keyword ≡ true
optional_here i at e =
    sym (ap (λ o. option_map_or (λ (x : Item). is_optional x.keyword) o false) (item_there i at (optional_within (items_in i) at e))) ∙ e

-- the line is made of its parts
pub made_why : (x : Item) (word : Option (List ℕ)) (at : Spot) (space label : List ℕ) (told : Option (List ℕ)) → at ≡ x.at → space ≡ qualified x.space → label ≡ label_of x → told ≡ word
    → record { «module» = at.«module»; at = at.at; space = space; label = label; missing = told } ≡ why_line x word
made_why x word at space label told p s l e = λ i. record { «module» = (p i).«module»; at = (p i).at; space = s i; label = l i; missing = e i }

-- the line of a reason is that of the optional at the place that it leaves out
pub reason_line : (i : Kept) (r : Reason) (at : ℕ) → at ≡ left_out r → is_optional_at (items_in i) (left_out r) ≡ true → (line : WhyLine) → line ≡ why_line (item_at i at) (missing_of (items_in i) r)
    → IsReasonLine (items_in i) r line
reason_line i r at here e line told = record {
  optional = item_at i at;
  is_there = subst (λ o. slice_get (items_in i) o ≡ Some (item_at i at)) here (item_there i at (rw here (optional_within (items_in i) (left_out r) e)));
  told = told;
}

-- the name with which its statement begins is the label
pub label_here : (i : Kept) (at : ℕ) (s : Statement) → statement_of s ≡ (placed_at i at).standing.statement.statement
    → is_optional_at (items_in i) at ≡ true → bytes_of (named_in_front (args_of s)) ≡ label_of (item_at i at)
label_here i at s is e = label_there i at s is (sym (ap is_optional (keyword_there i at s is)) ∙ optional_here i at e)

-- ---- the reasons of a right choice

module _ (xs : List Item) where
  has_statement : (out : List ℕ) (r : Reason) → Holds xs out r → HasStatement xs r
  has_statement out (ParentOut o) h = tt
  has_statement out (Missing o i j) (missing q k l w own fails) = in_range xs i own.statement own.is_there

  statements_there : (out : List ℕ) (rs : List Reason) → InOrder xs out rs → (k : ℕ) (d : Reason) → k < length rs → HasStatement xs (get_or rs k d)
  statements_there out [] order k d h = absurd (omega (arith, h))
  statements_there out (r ∷ rs) (one_more q s l fresh holds order) zero d h = has_statement out r holds
  statements_there out (r ∷ rs) (one_more q s l fresh holds order) (suc k) d h = statements_there (left_out r ∷ out) rs order k d (omega (arith, h))

  or_second : (a b : Bool) → b ≡ true → (a || b) ≡ true
  or_second true b e = refl
  or_second false b e = e

  -- each is of the items
  pub reason_there : (enabled : OptSet) (rs : List Reason) → IsRight xs enabled rs → (k : ℕ) (d : Reason) → k < length rs → IsOfItems xs (get_or rs k d)
  reason_there enabled rs right k d h =
      let o = left_out (get_or rs k d) in
      let n : length (map left_out rs) ≡ length rs = length-map rs left_out in
      let out : among (map left_out rs) o ≡ true =
      subst (λ v. among (map left_out rs) v ≡ true) (get_or-map left_out rs k d 0 h) (among_at (map left_out rs) k (omega (arith, h, n))) in
      record { optional = right.each o ∙ or_second (enabled o) (among (map left_out rs) o) out; statement = statements_there [] rs right.order k d h }

  -- ---- their lines

  push_line : (rs : List Reason) (lines : List WhyLine) (r : Reason) (line : WhyLine) → AreReasonsOf xs rs lines → IsReasonLine xs r line → AreReasonsOf xs (rs ++ r ∷ []) (lines ++ line ∷ [])
  push_line rs lines r line no_reason is = one_reason r [] line [] is no_reason
  push_line rs lines r line (one_reason q qs l ls first more) is = one_reason q (qs ++ r ∷ []) l (ls ++ line ∷ []) first (push_line qs ls r line more is)

  pub more_lines : (rs : List Reason) (k : ℕ) (r d : Reason) (old new : List WhyLine) (line : WhyLine) → k < length rs → r ≡ get_or rs k d → AreReasonsOf xs (take k rs) old → IsReasonLine xs r line
      → new ≡ old ++ line ∷ [] → AreReasonsOf xs (take (k + 1) rs) new
  more_lines rs k r d old new line h is so told e =
      let taken = take_more rs k d h ∙ ap (λ q. take k rs ++ q ∷ []) (sym is) in
      rw (taken, e) (push_line (take k rs) old r line so told)

  pub all_reasons : (rs : List Reason) (k : ℕ) (lines : List WhyLine) → length rs ≤ k → AreReasonsOf xs (take k rs) lines → AreReasonsOf xs rs lines
  all_reasons rs k lines over so = subst (λ qs. AreReasonsOf xs qs lines) (take_all k rs over) so
