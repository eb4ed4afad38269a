-- A block or a macro shares its name with another one exactly where a sort by full names, or a pair of seeds, tells it.
use Rattle.std.proofs.Common.{◌≡◌, ◌⊎◌, ℕ, ◌<◌, true, List, ◌∷◌, ◌++◌, length, refl, sym, ◌∙◌, ap, subst, inl, inr, arith}
use Rattle.std.specs.Prelude.{Contains, Option}
use Rattle.cil_syntax.specs.declared.program.Statement.{Statement}
use Rattle.cil_syntax.specs.Program.{IsNested, program_of}
use Rattle.cil_faults.specs.Namespaces.{Namespace}
use Rattle.cil_syntax.specs.Written.{Written}
use Rattle.cil_blocks.specs.declared.parts.Parts.{Parts}
use Rattle.cil_blocks.specs.declared.targets.Targets.{Targets}
use Rattle.cil_blocks.specs.Contents.{is_named, name_of}
use Rattle.cil_blocks.specs.Doubled.{AreDoubled, AreThose, AreWrittenTwice, IsWrittenTwice, is_named_at}
use Rattle.cil_blocks.specs.Entries.{AreParts, nothing, statement_at}
use Rattle.cil_blocks.specs.InheritFaults.{Gives, IsDoubled, IsNamedTwice, IsOf, in_contents, in_writing}
use Rattle.cil_blocks.specs.Named.{AreAllTargets, full_name}
use Rattle.cil_blocks.specs.Seeds.{StandsTwice, body_of, body_parts}
use Rattle.cil_blocks.proofs.CycleLemmas.{is_shared}
use Rattle.cil_blocks.proofs.Kept.{grown}
use Rattle.cil_base.specs.Places.{get_at, get_so, cons_head, cons_tail}
use Rattle.cil_blocks.proofs.MemberLemmas.{named_below}
use Rattle.cil_blocks.proofs.ProgramLemmas.{program_length}
use Rattle.cil_blocks.proofs.SeedsShare.{both_reached, have_seeds, number_of, one_number, part_below, part_of, same_number, seeds_share, sharing, written}

module _ (ss : List Statement) (nested : IsNested ss) (ps : Parts) (ts : Targets) (are_parts : AreParts (program_of ss) ps) (are_targets : AreAllTargets (program_of ss) ts) where
  abbrev ws : List Written
  ws = program_of ss

  -- ---- doubled

  named_twice : (i j : ℕ) → is_named_at ws i ≡ true → is_named_at ws j ≡ true → name_of (statement_at ws j) ≡ name_of (statement_at ws i) → (j ≡ i → ⊥)
      → IsNamedTwice (statement_at ws i) (statement_at ws j)
  named_twice i j a b e differ = record {
    first = a;
    second = b;
    one_name = sym e;
    differ = λ s. differ (sym (one_number ss nested ps ts are_parts are_targets i j (named_below ws i a) (named_below ws j b) s));
  }

  told_doubled : (i : ℕ) → StandsTwice ws ps ts i → IsDoubled ws (statement_at ws i)
  told_doubled i t =
      let d = t.2 in
      let one = d.is_one in
      let other = d.is_other in
      let s = both_reached ss nested ps ts are_parts are_targets t.0.0 t.0.1 one.0.body other.0.body (seeds_share ss nested ps ts are_parts are_targets t.0 t.1) one.0.reached other.0.reached in
      let g = (is_shared ws (body_of ws one.0.body) (body_of ws other.0.body)).0 s.2 in
      in_contents (statement_at ws d.other) g.0 (body_of ws one.0.body) (body_of ws other.0.body) (written ss nested ps ts are_parts are_targets d.other (named_below ws d.other other.1))
      (named_twice i d.other one.1 other.1 d.one_name d.differ) g.1 (part_of ss nested ps ts are_parts are_targets one.0.body i s.0 one.0.is_in) g.2 (part_of ss nested ps ts are_parts are_targets other.0.body d.other s.1 other.0.is_in)

  contents_told : (i : ℕ) → i < length ws → (w : Written) (n : Namespace) (a b : Option Written) → Contains ws w → IsNamedTwice (statement_at ws i) w → Gives ws n a
      → IsOf a (statement_at ws i) → Gives ws n b → IsOf b w → StandsTwice ws ps ts i
  contents_told i h w n a b k t ga oa gb ob =
      let s = have_seeds ss nested ps ts are_parts are_targets a b ((is_shared ws a b).1 (n, ga, gb)) in
      let r = sharing ss nested ps ts are_parts are_targets a b s in
      let x = number_of ss nested ps ts are_parts are_targets s.one (statement_at ws i) r.0 (written ss nested ps ts are_parts are_targets i h) (subst (λ y. IsOf y (statement_at ws i)) (sym s.is_one) oa) in
      let z = number_of ss nested ps ts are_parts are_targets s.other w r.1 k (subst (λ y. IsOf y w) (sym s.is_other) ob) in
      let same : x.number ≡ i = same_number ss nested ps ts are_parts are_targets x.number i (statement_at ws i) (part_below ss nested ps ts are_parts are_targets s.one x.number x.is_in) h x.is refl in (
        s.pair,
        s.are_seeds,
        record {
          is_one = (record { body = s.one; reached = s.one_reached; is_in = subst (Contains (body_parts ps s.one)) same x.is_in }, t.first);
          other = z.number;
          is_other = (
            record { body = s.other; reached = s.other_reached; is_in = z.is_in },
            subst (λ (y : Written). is_named y.statement.keyword ≡ true) (sym z.is) t.second,
          );
          one_name = ap name_of z.is ∙ sym t.one_name;
          differ = λ e. t.differ (ap (λ (m : ℕ). (statement_at ws m).statement.at) (sym e) ∙ ap (λ (y : Written). y.statement.at) z.is);
        },
      )

  written_doubled : (n i : ℕ) → n ≡ length ws → IsWrittenTwice ws n i → IsDoubled ws (statement_at ws i)
  written_doubled n i l t =
      let h = t.other_within in
      let one = cons_head (name_of (statement_at ws t.other)) (name_of (statement_at ws i)) (statement_at ws t.other).context.space (statement_at ws i).context.space t.one_name in
      let same = cons_tail (name_of (statement_at ws t.other)) (name_of (statement_at ws i)) (statement_at ws t.other).context.space (statement_at ws i).context.space t.one_name in
      in_writing (statement_at ws t.other) (written ss nested ps ts are_parts are_targets t.other (omega (arith, h, l))) (named_twice i t.other t.is_one t.is_other one t.differ) (sym same)

  writing_told : (n i : ℕ) → n ≡ length ws → i < n → (w : Written) → Contains ws w → IsNamedTwice (statement_at ws i) w
      → (statement_at ws i).context.space ≡ w.context.space → IsWrittenTwice ws n i
  writing_told n i l h w k t e =
      let g = get_at ws w k in
      let below = g.1 in
      let is : statement_at ws g.0 ≡ w = get_so ws g.0 w nothing g.2 in
      let own = sym t.one_name in
      let space = sym e in
      record {
        within = h;
        is_one = t.first;
        other = g.0;
        other_within = omega (arith, below, l);
        is_other = subst (λ (y : Written). is_named y.statement.keyword ≡ true) (sym is) t.second;
        one_name = ap full_name is ∙ (λ j. own j ∷ space j);
        differ = λ d. t.differ (ap (λ (m : ℕ). (statement_at ws m).statement.at) (sym d) ∙ ap (λ (y : Written). y.statement.at) is);
      }

  some_told : (n i : ℕ) → n ≡ length ws → i < n → IsDoubled ws (statement_at ws i) → IsWrittenTwice ws n i ⊎ StandsTwice ws ps ts i
  some_told n i l h (in_writing w k t e) = inl (writing_told n i l h w k t e)
  some_told n i l h (in_contents w m a b k t ga oa gb ob) = inr (contents_told i (omega (arith, h, l)) w m a b k t ga oa gb ob)

  pub all_doubled : (n : ℕ) (in_text in_spaces found : List ℕ) → n ≡ length ss → AreWrittenTwice ws n in_text → AreThose (StandsTwice ws ps ts) in_spaces
      → found ≡ in_text ++ in_spaces → AreDoubled ws n found
  all_doubled n in_text in_spaces found l so is e =
      let m = program_length ss in
      let same : n ≡ length ws = omega (arith, l, m) in
      grown (IsWrittenTwice ws n) (StandsTwice ws ps ts) (λ i. (i < n) × IsDoubled ws (statement_at ws i)) in_text in_spaces found so is e (λ i. (
        (λ d. some_told n i same d.0 d.1),
        (λ o. elim o [
          | inl t ↦ (t.within, written_doubled n i same t)
          | inr t ↦ (let h = named_below ws i t.2.is_one.1 in omega (arith, h, same), told_doubled i t)
        ]),
      ))
