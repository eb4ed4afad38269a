use Rattle.cil_label_bytes.specs.Layout.{LabelNames}
use Rattle.cil_label_bytes.proofs.LaidLemmas.{labels_put, put_last}
use Rattle.cil_label_bytes.proofs.put_sections.put_labels.Goals as goal

pub returns : goal.returns
returns c =
    let t : LabelNames = record { levels = c.args.labels.now; users = c.args.users.now } in
    let p1 = rw c.categories.ensures at c.in_ok-put_listing.ensures in
    let p2 = rw c.category_aliases.ensures at c.in_ok-put_aliases.ensures in
    let p3 = rw (c.sensitivities.ensures, c.permitted.ensures) at c.in_ok-put_sensitivities.ensures in
    let p4 = rw c.sensitivity_aliases.ensures at c.in_ok-put_aliases-2.ensures in
    let p5 = rw (c.are_on.ensures, c.users.ensures) at c.put_users.ensures in
    put_last c.put_users.result
    (labels_put c.args.labels.now.are_on t c.args.out.now.items c.put_listing.new.out.items c.put_aliases.new.out.items c.put_sensitivities.new.out.items c.put_aliases-2.new.out.items
    c.put_users.new.out.items p1 p2 p3 p4)
    p5
