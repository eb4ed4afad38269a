use Rattle.std.proofs.Common.{◌≡◌, ◌∙◌, ap, arith, length, sym}
use Rattle.cil_names.proofs.RowLemmas.{how_many}
use Rattle.cil_words.proofs.number_lists.Lists.len.Goals as goal

pub returns : goal.returns
returns c =
    let counted : c.len.result ≡ length c.self.inside.starts.items = let n = c.len.ensures in let same = c.self.inside.starts.ok.0 in omega (arith, n, same) in
    counted ∙ sym (how_many c.self.inside.numbers.items c.self.inside.starts.items) ∙ ap length c.self.view_is
