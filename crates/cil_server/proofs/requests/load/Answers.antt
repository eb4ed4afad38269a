use Rattle.std.specs.Prelude.{Err}
use Rattle.std.proofs.Common.{◌∙◌, ap}
use Rattle.cil_server.proofs.TurnLemmas.{load_answers, load_lacks, load_refused, loaded}
use Rattle.cil_server.proofs.requests.load.Goals as goal

pub returns-in-Ok-clause-loads : goal.returns-in-Ok-clause-loads
returns-in-Ok-clause-loads g c = loaded _ _ _ _ _ c.in-Ok.is c.load.ensures c.put_loaded.ensures

pub returns-in-Ok-clause-answers : goal.returns-in-Ok-clause-answers
returns-in-Ok-clause-answers g c = load_answers _ _ _ _ (loaded _ _ _ _ _ c.in-Ok.is c.load.ensures c.put_loaded.ensures)

pub returns-in-Ok-render-clause-loads : goal.returns-in-Ok-render-clause-loads
returns-in-Ok-render-clause-loads g c =
    load_refused _ _ _ _ _ _ _ (c.in-Err-Faults.is ∙ ap Err c.in-Err-Faults.field-0-is) c.load.ensures (c.as_slice.ensures.value ∙ c.in-Ok-render.ensures) c.len.ensures.len
    c.put_faults.ensures

pub returns-in-Ok-render-clause-answers : goal.returns-in-Ok-render-clause-answers
returns-in-Ok-render-clause-answers g c =
    load_answers _ _ _ _ (load_refused _ _ _ _ _ _ _ (c.in-Err-Faults.is ∙ ap Err c.in-Err-Faults.field-0-is) c.load.ensures (c.as_slice.ensures.value ∙ c.in-Ok-render.ensures)
    c.len.ensures.len c.put_faults.ensures)

pub returns-in-Err-Faults-clause-loads : goal.returns-in-Err-Faults-clause-loads
returns-in-Err-Faults-clause-loads g c = load_lacks _ _ _ _ _ c.in-Err-Faults.is c.load.ensures c.put_refused.ensures

pub returns-in-Err-Faults-clause-answers : goal.returns-in-Err-Faults-clause-answers
returns-in-Err-Faults-clause-answers g c = load_answers _ _ _ _ (load_lacks _ _ _ _ _ c.in-Err-Faults.is c.load.ensures c.put_refused.ensures)

pub returns-clause-loads : goal.returns-clause-loads
returns-clause-loads g c = load_lacks _ _ _ _ _ c.in-Err-NoMemory.is c.load.ensures c.put_refused-in-Err-NoMemory.ensures

pub returns-clause-answers : goal.returns-clause-answers
returns-clause-answers g c = load_answers _ _ _ _ (load_lacks _ _ _ _ _ c.in-Err-NoMemory.is c.load.ensures c.put_refused-in-Err-NoMemory.ensures)
