use Rattle.cil_label_bytes.proofs.NameLemmas.{one_added}
use Rattle.cil_label_bytes.proofs.name_list.NameList.add.Goals as goal

pub returns : goal.returns
returns c =
    let fresh = rw (← c.self.view_is) at c.requires in
    rw (← c.self.view_is) (one_added c.self.inside.names.keys c.insert.new.self.keys c.args.name fresh c.in_ok-insert.ensures.keys)
