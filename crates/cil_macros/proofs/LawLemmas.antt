-- The laws of `laws.rt`, over programs.
use Rattle.cil_syntax.specs.Program.{program_of}
use Rattle.cil_blocks.proofs.LawLemmas.{have_one_target}
use Rattle.cil_blocks.proofs.ProgramLemmas.{are_apart}
use Rattle.cil_macros.specs.Laws.{HaveOneInstance}
use Rattle.cil_macros.proofs.OneInstance.{one_instance}

pub have_one_instance : HaveOneInstance
have_one_instance ss standings nested none =
    one_instance (program_of ss) standings (are_apart ss nested) (have_one_target ss nested none)
