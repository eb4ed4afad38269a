use Rattle.cil_faults.specs.Spots.{spot_at}
use Rattle.cil_syntax.proofs.FirstItem.{none_there, string_there, list_there, word_judged, items_refused}
use Rattle.cil_syntax.proofs.reader.Reader.judge_items.Goals as goal

pub returns-in-empty : goal.returns-in-empty
returns-in-empty c =
    let m = c.args.self.now.number in
    let at = spot_at m c.args.at in
    items_refused m c.args.self.now.text.now c.args.nodes.now at c.args.self.now.place.now _ _ c.refuse_items.result
    (none_there m c.args.self.now.text.now c.args.nodes.now at c.in-empty.len_below) c.refuse_items.ensures

pub returns-in-Word : goal.returns-in-Word
returns-in-Word c =
    let m = c.args.self.now.number in
    word_judged m c.args.self.now.text.now c.args.nodes.now (spot_at m c.args.at) c.first-item.result c.in-len1-up.len_at_least c.first-item.is c.args.self.now.place.now c.judge_behind.result _ _
    c.in-Word.span _ c.in-Word.is c.bytes_at.ensures c.judge_behind.ensures

pub returns-in-Quoted : goal.returns-in-Quoted
returns-in-Quoted c =
    let m = c.args.self.now.number in
    let at = spot_at m c.args.at in
    items_refused m c.args.self.now.text.now c.args.nodes.now at c.args.self.now.place.now _ _ c.refuse_items-in-Quoted.result
    (string_there m c.args.self.now.text.now c.args.nodes.now at c.first-item.result c.in-len1-up.len_at_least c.first-item.is _ c.in-Quoted.is) c.refuse_items-in-Quoted.ensures

pub returns-in-List : goal.returns-in-List
returns-in-List c =
    let m = c.args.self.now.number in
    let at = spot_at m c.args.at in
    items_refused m c.args.self.now.text.now c.args.nodes.now at c.args.self.now.place.now _ _ c.refuse_items-in-List.result
    (list_there m c.args.self.now.text.now c.args.nodes.now at c.first-item.result c.in-len1-up.len_at_least c.first-item.is _ _ c.in-List.is) c.refuse_items-in-List.ensures
