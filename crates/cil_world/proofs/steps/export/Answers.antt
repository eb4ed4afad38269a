use Rattle.std.proofs.Common.{◌<◌, ◌^◌, ◌∙◌, ◌++◌, ◌∷◌, ℕ, List, [], Some, arith, ap, inl, length, subst}
use Rattle.cil_world.specs.declared.reply.Reply.TheVariants.{Exported}
use Rattle.cil_world.proofs.steps.export.Goals as goal

pub returns-in_ok-push-in-Ok : goal.returns-in_ok-push-in-Ok
returns-in_ok-push-in-Ok c =
    let held = c.in-Ok.bundle.ok in
    let room = c.in-Ok.bundle.small in
    let short : length c.in-Ok.bundle.items < 2 ^ 64 = omega (arith, held.0, held.1, room) in
    inl (record {
      told = ap Exported (c.len-length.ensures ∙ held.0 ∙ ap length c.in-Ok.ensures);
      kept_is = c.in_ok-push-in-Ok.ensures.items ∙ ap (λ (b : List ℕ). c.args.exports.now.items ++ Some b ∷ []) (c.from_vec.ensures ∙ c.in-Ok.ensures);
      counted = subst (λ (b : List ℕ). length b < 2 ^ 64) c.in-Ok.ensures short;
    })
