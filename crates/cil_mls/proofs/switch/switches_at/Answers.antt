use Rattle.std.proofs.Common.{◌≡◌, true, ◌&&◌, sym, ◌∙◌, ap}
use Rattle.cil_syntax.specs.Said.{all_said, args_of}
use Rattle.cil_attrs.specs.macros.Item.{is_enabled}
use Rattle.cil_attrs.specs.macros.Items.{item_at, word_at}
use Rattle.cil_attrs.proofs.macros_lemmas.ItemsThere.{keyword_there, named_there}
use Rattle.cil_attrs.specs.known.Known.{enabled_in}
use Rattle.cil_mls.specs.Switch.{is_mls, is_switch}
use Rattle.cil_mls.proofs.SwitchLemmas.{mls_as_written, mls_named, no_switch, switch_replaced, switches_so}
use Rattle.cil_mls.proofs.switch.switches_at.Goals as goal

pub returns-then-not-is_mls : goal.returns-then-not-is_mls
returns-then-not-is_mls c =
    let i = c.args.instances.now in
    let x = item_at i c.args.at in
    sym (ap (λ b. b && (is_enabled (enabled_in c.args.known.now) x && is_switch c.args.on x.args))
    (ap is_mls (keyword_there i c.args.at c.statement_there-statement.result.now c.statement_there-statement.ensures.is) ∙ sym c.is_mls.ensures ∙ c.if-not-is_mls.true))

pub returns-then-not-is_enabled : goal.returns-then-not-is_enabled
returns-then-not-is_enabled c =
    let x = item_at c.args.instances.now c.args.at in
    sym (no_switch (is_mls x.keyword) (is_enabled (enabled_in c.args.known.now) x) (is_switch c.args.on x.args) (sym c.is_enabled.ensures ∙ c.if-not-is_enabled.true))

pub returns : goal.returns
returns c =
    let i = c.args.instances.now in
    let s = c.statement_there-statement.result.now in
    let x = item_at i c.args.at in
    let there = keyword_there i c.args.at s c.statement_there-statement.ensures.is in
    let mls : is_mls s.keyword ≡ true = sym c.is_mls.ensures ∙ c.if-not-is_mls.false in
    let says = named_there i c.args.at s c.statement_there-statement.ensures.is (mls_named s.keyword mls) (mls_as_written s.keyword mls) in
    c.is_switch.ensures s.at.«module» ∙ ap (λ ts. is_switch c.args.on (all_said s.at.«module» ts)) c.as_slice.ensures.value
    ∙ sym (switches_so (is_mls x.keyword) (is_enabled (enabled_in c.args.known.now) x) (is_switch c.args.on x.args) (ap is_mls there ∙ mls) (sym c.is_enabled.ensures ∙ c.if-not-is_enabled.false)
    ∙ ap (is_switch c.args.on) says ∙ switch_replaced (λ at. at) (word_at i c.args.at) c.args.on (args_of s))
