use Rattle.std.proofs.Common.{◌∙◌, sym, ap, refl, List, ℕ}
use Rattle.cil_blocks.specs.Numbers.{chain_numbers, with_numbers}
use Rattle.cil_blocks.proofs.ChainNumbers.{none_round, one_round}
use Rattle.cil_blocks.proofs.GoneUp.{begun, ended, further, was_new, was_there, stopped, stopped_up}
use Rattle.cil_blocks.proofs.scopes.ScopeList.add_chain.Goals as goal

pub loop-space-init : goal.loop-space-init
loop-space-init c = record {
  added = refl;
  way = begun c.args.namespaces.now c.args.gone_up.now.keys c.args.self.now c.args.number c.requires;
}

pub loop-space-preserved : goal.loop-space-preserved
loop-space-preserved c =
    let ss = c.args.namespaces.now in
    record {
      added =
          ap (λ (ks : List ℕ). with_numbers ks (chain_numbers ss c.in-Some.space.outer)) c.in_ok-add.ensures
          ∙ ap (with_numbers c.loop-space.self) (sym (one_round ss c.get.ensures.once c.loop-space.at c.in-Some.space (sym c.in-Some.ensures.space)))
          ∙ c.loop-space.invariant.added;
      way =
          further ss c.get.ensures.once c.loop-space.at c.in-Some.space c.loop-space.gone_up.keys c.insert.new.self.keys c.loop-space.self c.add.new.self (sym c.in-Some.ensures.space)
          c.in_ok-is_new.ensures.keys c.in_ok-add.ensures (was_new c.loop-space.at c.loop-space.gone_up.keys c.in_ok-is_new.is_new c.in_ok-is_new.ensures.added c.if-not-is_new.false)
          c.loop-space.invariant.way;
    }

pub returns-then-not-is_new-clause-added : goal.returns-then-not-is_new-clause-added
returns-then-not-is_new-clause-added c =
    sym (stopped c.args.namespaces.now c.get.ensures.once c.loop-space.at c.loop-space.gone_up.keys c.loop-space.self
    (was_there c.loop-space.at c.loop-space.gone_up.keys c.in_ok-is_new.is_new c.in_ok-is_new.ensures.added c.if-not-is_new.true) c.loop-space.invariant.way)
    ∙ c.loop-space.invariant.added

pub returns-then-not-is_new-clause-gone_up : goal.returns-then-not-is_new-clause-gone_up
returns-then-not-is_new-clause-gone_up c =
    stopped_up c.args.namespaces.now c.get.ensures.once c.loop-space.at c.loop-space.gone_up.keys c.insert.new.self.keys c.loop-space.self
    (was_there c.loop-space.at c.loop-space.gone_up.keys c.in_ok-is_new.is_new c.in_ok-is_new.ensures.added c.if-not-is_new.true) c.in_ok-is_new.ensures.keys c.loop-space.invariant.way

pub returns : goal.returns
returns c = record {
  added =
      ap (with_numbers c.loop-space.self) (sym (none_round c.args.namespaces.now c.get.ensures.once c.loop-space.at (sym c.in_default.ensures.space)))
      ∙ c.loop-space.invariant.added;
  gone_up = ended c.args.namespaces.now c.get.ensures.once c.loop-space.at c.loop-space.gone_up.keys c.loop-space.self (sym c.in_default.ensures.space) c.loop-space.invariant.way;
}
