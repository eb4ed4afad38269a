use Rattle.std.proofs.Common.{◌++◌, ◌∙◌, ap, sym}
use Rattle.std.specs.List.{flat_map}
use Rattle.std.proofs.lemmas.Result.{on_ok_weaker}
use Rattle.cil_names.specs.Asked.{wanted_by}
use Rattle.cil_names.specs.AskedParts.{mapping_asked, parts_asked}
use Rattle.cil_names.proofs.AskedPartLemmas.{mapping_terms, terms_asked}
use Rattle.cil_names.proofs.ReadingLemmas.{mapping_said, plain_said}
use Rattle.cil_names.proofs.asked_parts.ask_said.Goals as goal

pub returns-then-is_mapping : goal.returns-then-is_mapping
returns-then-is_mapping c =
    on_ok_weaker c.ask_mapping.result
    (λ all ps ts same.
    all ps
    ∙ ap (λ l. flat_map (wanted_by ps) c.args.asked.now.items ++ l)
    (ap mapping_asked same ∙ mapping_terms ts ∙ sym (mapping_said c.args.keyword ts (sym c.is_mapping.ensures ∙ c.if-is_mapping.true))))
    c.ask_mapping.ensures

pub returns : goal.returns
returns c =
    on_ok_weaker c.ask_parts.result
    (λ all ps ts same.
    all ps
    ∙ ap (λ l. flat_map (wanted_by ps) c.args.asked.now.items ++ l)
    (ap (parts_asked 0) same ∙ terms_asked ts ∙ sym (plain_said c.args.keyword ts (sym c.is_mapping.ensures ∙ c.if-is_mapping.false))))
    c.ask_parts.ensures
