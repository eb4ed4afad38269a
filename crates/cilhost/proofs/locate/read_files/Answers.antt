use Rattle.std.proofs.Common.{◌+◌, ◌∙◌, refl, sym, subst}
use Rattle.cilhost.proofs.LocateLemmas.{AreReadUpTo, all_read, none_read, one_more_read}
use Rattle.cilhost.proofs.locate.read_files.Goals as goal

pub loop-name-init : goal.loop-name-init
loop-name-init g c = (
  refl,
  refl,
  subst (λ fs. AreReadUpTo (g.Y.System.holds c.args.system.now) c.args.names.now fs 0) (sym c.in_ok-files.ensures.items)
      (none_read (g.Y.System.holds c.args.system.now) c.args.names.now),
)

pub loop-name-preserved : goal.loop-name-preserved
loop-name-preserved g c = (
  c.read_file.ensures.stays ∙ c.loop-name.invariant.0,
  c.in_ok-read_file.ensures.sound ∙ c.loop-name.invariant.1,
  subst (λ fs. AreReadUpTo (g.Y.System.holds c.args.system.now) c.args.names.now fs (c.loop-name.name-index + 1)) (sym c.in_ok-push.ensures.items)
      (one_more_read _ _ _ c.loop-name.name-index _ _ c.loop-name-test.true (rw c.loop-name.invariant.0 at c.in_ok-read_file.ensures.file) c.loop-name.invariant.2),
)

pub returns-clause-files : goal.returns-clause-files
returns-clause-files g c = all_read _ _ _ c.loop-name.name-index c.loop-name-test.false c.loop-name.invariant.2
