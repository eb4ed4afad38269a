use Rattle.cil_table_bytes.specs.Told.{links_in}
use Rattle.cil_table_bytes.proofs.WriteLemmas.{linked_put}
use Rattle.cil_table_bytes.proofs.put_links.put_linked.Goals as goal

pub returns : goal.returns
returns g c = λ before h.
    linked_put g.O.Out.holds (links_in c.args.tables.now) c.user_roles.result.now c.role_types.result.now c.role_allows.result.now c.put_links-3.result c.put_links-3.new.out before
    c.user_roles.ensures.links c.role_types.ensures.links c.role_allows.ensures.links
    (c.put_links-3.ensures _ (c.in_ok-put_links-2.ensures _ (c.in_ok-put_links.ensures before h)))
