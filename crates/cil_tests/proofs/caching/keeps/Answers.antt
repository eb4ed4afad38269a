use Rattle.cil_server.proofs.avc_lemmas.TrueCache.{true_flushed, true_resized}
use Rattle.cil_tests.proofs.caching.keeps.Goals as goal

pub lookup-opens-requires : goal.lookup-opens-requires
lookup-opens-requires c = true_flushed _ _ _ _ c.in-Ok.ensures

pub lookup-opens_again-requires : goal.lookup-opens_again-requires
lookup-opens_again-requires c = true_resized _ _ c.lookup-reads.new.self _ _ c.lookup-reads.ensures.is_true c.resize.ensures
