use Rattle.cil_tables.specs.Table.{link_cmp, link_total}
use Rattle.cil_format.proofs.Growing.{all_of, none_of, one_more}
use Rattle.cil_table_bytes.proofs.links.links_of.Goals as goal

pub loop-link-init : goal.loop-link-init
loop-link-init c = none_of link_cmp c.new-links.result c.new-links.ensures

pub loop-link-preserved : goal.loop-link-preserved
loop-link-preserved c =
    one_more link_cmp c.args.listed.now c.loop-link.link-index record { holder = 0; held = 0 } c.loop-link.links c.add.new.self c.loop-link-test.true c.loop-link.invariant c.in_ok-add.ensures

pub returns : goal.returns
returns c = all_of link_cmp link_total c.args.listed.now c.loop-link.link-index c.loop-link.links c.requires c.loop-link-test.false c.loop-link.invariant
