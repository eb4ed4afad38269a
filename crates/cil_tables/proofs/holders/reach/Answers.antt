use Rattle.std.proofs.Common.{◌≡◌, [], ◌∷◌, ◌++◌, refl, sym, ◌∙◌, ap, subst}
use Rattle.cil_tables.specs.Holders.{AreRising, links_from}
use Rattle.cil_tables.proofs.HolderLemmas.{empty_rises, one_empty}
use Rattle.cil_tables.proofs.holders.reach.Goals as goal

pub loop-alloc-init : goal.loop-alloc-init
loop-alloc-init c = (refl, λ up. up)

pub loop-alloc-preserved : goal.loop-alloc-preserved
loop-alloc-preserved c =
    let pushed : c.push.new.self.items ≡ c.loop-alloc.rows.items ++ [] ∷ [] = c.in_ok-push.ensures.items ∙ ap (λ row. c.loop-alloc.rows.items ++ row ∷ []) c.new.ensures in (
      ap (links_from 0) pushed ∙ one_empty 0 c.loop-alloc.rows.items ∙ c.loop-alloc.invariant.0,
      λ up. subst AreRising (sym pushed) (empty_rises c.loop-alloc.rows.items (c.loop-alloc.invariant.1 up)),
    )
