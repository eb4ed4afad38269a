-- What stands in a policy without blocks, macros and optionals: each statement, once.
use Rattle.std.proofs.Common.{◌≡◌, true, false, List, [], ◌∷◌, length, map, refl, sym, ◌∙◌, subst, inl, inr, arith}
use Rattle.std.specs.Prelude.{Contains}
use Rattle.std.specs.List.Sorted.{IsStrictlySortedBy}
use Rattle.std.proofs.lemmas.Bool.{cases_lt}
use Rattle.std.proofs.lemmas.List.{length-map}
use Rattle.cil_base.specs.Lists.{Lists, contains_cases, contains_here, contains_none}
use Rattle.cil_faults.specs.declared.fault.Fault.{Fault}
use Rattle.cil_faults.specs.Fails.{AreFaults}
use Rattle.cil_faults.specs.Laws.{Outcome, succeeds, fails}
use Rattle.cil_syntax.specs.Written.{Written, written_cmp}
use Rattle.cil_blocks.specs.Contents.{Standing, Stands, in_block, in_branch, in_optional, inherited, is_block, is_inheriting, is_optional, spot_cmp, standing_cmp, standing_top, top, spot_total}
use Rattle.cil_blocks.specs.InheritFaults.{InheritFault, InheritStep, IsOver, cycle, limit_fault, most_instances, standing_twice, too_many, unresolved, written_twice}
use Rattle.cil_blocks.specs.Laws.{HaveFlatContents, IsFlat}
use Rattle.cil_blocks.proofs.InheritLemmas.{limit_alone, no_step, standing_total}
use Rattle.cil_base.specs.MadeLists.{contains_map, from_map}
use Rattle.cil_base.specs.Paths.{alone}
use Rattle.cil_base.specs.Places.{none_some}
use Rattle.cil_base.specs.Rising.{not_over}
use Rattle.cil_blocks.proofs.StandingWalk.{rising_map}

never : true ≡ false → ⊥
never e = cc

module _ (ws : List Written) (rising : IsStrictlySortedBy written_cmp ws) (flat : (w : Written) → Contains ws w → IsFlat w) where
  -- what stands is a statement at the top
  on_top : (s : Standing) → Stands ws s → (w : Written) × Contains ws w × (standing_top w ≡ s)
  on_top s (top w c u) = (w, c, refl)
  on_top s (in_block p w sp b a c u) =
      let t = on_top p sp in
      absurd (never (sym (subst (λ (q : Standing). is_block q.statement.statement.keyword ≡ true) (sym t.2) b) ∙ (flat t.0 t.1).no_block))
  on_top s (in_optional p w sp o c u) =
      let t = on_top p sp in
      absurd (never (sym (subst (λ (q : Standing). is_optional q.statement.statement.keyword ≡ true) (sym t.2) o) ∙ (flat t.0 t.1).no_optional))
  on_top s (in_branch p w sp o c u) = absurd (none_some p.statement.statement.at (sym (flat w c).on_top ∙ u))
  on_top s (inherited p b w sp i t c u) =
      let v = on_top p sp in
      absurd (never (sym (subst (λ (q : Standing). is_inheriting q.statement.statement.keyword ≡ true) (sym v.2) i) ∙ (flat v.0 v.1).no_inheritance))

  no_fault : (f : Fault) → InheritFault ws f → ⊥
  no_fault f (written_twice v w x cv cw twice same named) = never (sym twice.first ∙ (flat v cv).no_name)
  no_fault f (standing_twice v w n a b x cv cw twice ga ia gb ib named) = never (sym twice.first ∙ (flat v cv).no_name)
  no_fault f (unresolved w word cw inherits front none) = never (sym inherits ∙ (flat w cw).no_inheritance)
  no_fault f (cycle w b c word cw inherits front target needed within) = never (sym inherits ∙ (flat w cw).no_inheritance)

  contents : Lists standing_cmp (Stands ws) (map standing_top ws)
  contents = record {
    rising = rising_map ws rising standing_top (λ v w e. alone spot_cmp spot_total v.statement.at w.statement.at e) ws rising;
    members = λ s. (
      (λ c. let m = from_map standing_top ws s c in subst (Stands ws) m.2 (top m.0 m.1 (flat m.0 m.1).on_top)),
      (λ t. let w = on_top s t in subst (Contains (map standing_top ws)) w.2 (contains_map standing_top ws w.0 w.1)),
    );
  }

  limit_listed : IsOver standing_cmp (Stands ws) most_instances → AreFaults (InheritStep ws) (limit_fault ∷ [])
  unfolding IsStrictlySortedBy
  limit_listed over = record {
    listed = record {
      rising = (tt, tt);
      members = λ f. (
        (λ c. elim (contains_cases f limit_fault [] c) [ inl e ↦ subst (InheritStep ws) e (too_many no_fault over) | inr d ↦ absurd (contains_none f d) ]),
        (λ s. subst (Contains (limit_fault ∷ [])) (sym (limit_alone ws no_fault f s)) (contains_here limit_fault [])),
      );
    };
    some = omega arith;
  }

  counted : length (map standing_top ws) ≡ length ws
  counted = length-map ws standing_top

  outcome : Outcome (Lists standing_cmp (Stands ws)) (InheritStep ws)
  outcome = elim (cases_lt most_instances (length ws)) [
    | inl many ↦ fails (limit_fault ∷ [])
        (limit_listed (record {
          some = map standing_top ws;
          rising = contents.rising;
          each = λ s c. (contents.members s).0 c;
          many = let l = counted in omega (arith, l, many);
        }))
    | inr few ↦ succeeds (map standing_top ws) contents
        (no_step ws no_fault (not_over standing_cmp standing_total (Stands ws) (map standing_top ws) most_instances contents (let l = counted in omega (arith, l, few))))
  ]

pub have_flat_contents : HaveFlatContents
have_flat_contents ws rising flat = outcome ws rising flat
