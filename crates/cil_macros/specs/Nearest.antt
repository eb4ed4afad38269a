-- Through which blockinherits something came, by the ranks of what stands.
use Rattle.std.specs.Prelude.{◌≡◌, ℕ, List, Option, Some, slice_get}
use Rattle.cil_syntax.specs.Written.{Written}
use Rattle.cil_blocks.specs.Contents.{Standing, path_of}
use Rattle.cil_blocks.specs.Entries.{opener_of, standing_under}

-- something was opened by what stands at a rank, or stands at the top
pub record IsOpenedBy (ws : List Written) (ss : List Standing) (s : Standing) (o : Option ℕ) : Type 0 where
  pub statement : Written
  pub so : s ≡ standing_under ws (opener_of ss o) statement

-- the blockinherit through which something came last stands at this rank
pub record IsCameThrough (ss : List Standing) (s : Standing) (k : ℕ) : Type 0 where
  pub by : Standing
  pub is : slice_get ss k ≡ Some by
  pub so : s.chain ≡ path_of by
