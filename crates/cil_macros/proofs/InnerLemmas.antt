-- Whether what is placed somewhere is an optional or a booleanif of a body.
use Rattle.std.proofs.Common.{◌≡◌, ℕ, ◌+◌, ◌<◌, false, List, length, sym, ◌∙◌, ap, arith}
use Rattle.std.specs.Prelude.{Some, slice_get}
use Rattle.cil_syntax.specs.Written.{Written}
use Rattle.cil_blocks.specs.Contents.{keeps_place}
use Rattle.cil_blocks.specs.Entries.{statement_at}
use Rattle.cil_blocks.specs.Places.{Standings, entries_in}
use Rattle.cil_blocks.proofs.EntryLemmas.{standings_length}
use Rattle.cil_macros.specs.declared.entry.Called.{Called}
use Rattle.cil_macros.specs.Macros.{all_standing}
use Rattle.cil_macros.specs.Placed.{Placed}
use Rattle.cil_macros.specs.Walks.{OpensAsCall, placed_in, written_in}
use Rattle.cil_macros.proofs.BodyLemmas.{called_statement}
use Rattle.cil_macros.proofs.CallLemmas.{stood_at}
use Rattle.cil_macros.proofs.EntryLemmas.{other_opens, standing_opens}

module _ (s : Standings) (cs : List Called) (at : ℕ) where
  -- where something stands
  pub stands_there : at < length (entries_in s) → OpensAsCall s cs at
  stands_there h p here = let m = stood_at s cs at h p here in standing_opens (written_in s) (all_standing s) p (ap (λ (q : Placed). q.body) m.2)

  -- where the statement is neither
  pub plain_there : (j : ℕ) (c : Called) → at ≡ length (entries_in s) + j → slice_get cs j ≡ Some c
      → false ≡ keeps_place (statement_at (written_in s) c.statement).statement.keyword → OpensAsCall s cs at
  plain_there j c place there plain p here =
      let m = standings_length (written_in s) (entries_in s) in
      let behind : at ≡ length (all_standing s) + j = omega (arith, place, m) in
      other_opens (written_in s) (all_standing s) p
      (ap (λ (w : Written). keeps_place w.statement.keyword)
      (called_statement (written_in s) (all_standing s) cs j c p there (ap (slice_get (placed_in s cs)) (sym behind) ∙ here)) ∙ sym plain)
