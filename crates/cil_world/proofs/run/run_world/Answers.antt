use Rattle.std.specs.Prelude.{Some, slice_get}
use Rattle.std.proofs.Common.{◌≡◌, ◌+◌, ◌∙◌, ℕ, List, [], length, ap, subst, sym}
use Rattle.cil_base.specs.Places.{longer, there_as}
use Rattle.cil_world.specs.declared.reply.Reply.{Reply}
use Rattle.cil_world.specs.Steps.{Kept}
use Rattle.cil_world.proofs.RunLemmas.{IsRunUpTo, begun, one_more_event}
use Rattle.cil_world.proofs.run.run_world.Goals as goal

pub loop-event-init : goal.loop-event-init
loop-event-init c =
    let none = c.in_ok-replies.ensures.items in
    let world = c.in_ok-world.ensures in (
      subst (λ (r : List Reply). IsRunUpTo c.args.hosts c.args.events.now r c.in_ok-world.world.hosts.items c.in_ok-world.world.exports.items) (sym none)
          (subst (λ (k : Kept). IsRunUpTo c.args.hosts c.args.events.now [] c.in_ok-world.world.hosts.items k) (sym world.exports)
          (begun c.args.hosts c.args.events.now c.in_ok-world.world.hosts.items world.count world.hosts)),
      ap length none,
    )

pub loop-event-preserved : goal.loop-event-preserved
loop-event-preserved c =
    let run = c.loop-event.invariant.0 in
    let count = c.loop-event.invariant.1 in
    let at = subst (λ (n : ℕ). slice_get c.args.events.now n ≡ Some c.event-item.result) (sym count)
    (there_as c.args.events.now c.loop-event.event-index c.event-item.result c.loop-event-test.true c.event-item.is) in
    let more = c.in_ok-push.ensures.items in (
      subst (λ (r : List Reply). IsRunUpTo c.args.hosts c.args.events.now r c.answer.new.self.hosts.items c.answer.new.self.exports.items) (sym more)
          (one_more_event c.args.hosts c.args.events.now c.loop-event.replies.items c.loop-event.world.hosts.items c.answer.new.self.hosts.items
          c.loop-event.world.exports.items c.answer.new.self.exports.items c.event-item.result c.in_ok-reply.reply c.never_both.ensures c.never_both-2.ensures run at
          c.in_ok-reply.ensures),
      ap length more ∙ longer c.loop-event.replies.items c.in_ok-reply.reply ∙ ap (λ (n : ℕ). n + 1) count,
    )
