-- The first body of each macro, as it is kept. A call that belongs to an earlier body than the first one of its macro did
-- not come through that macro.
use Rattle.std.specs.Prelude.{◌≡◌, ℕ, ◌+◌, ◌<◌, ◌==◌, ◌&&◌, if◌then◌else◌, Bool, false, List, length, Option, Some, None, slice_get}
use Rattle.std.specs.List.{position}
use Rattle.std.specs.Option.{option_or}
use Rattle.indexmap.specs.IndexMap.{IndexMap, get}
use Rattle.cil_faults.specs.declared.spot.Spot.{Spot}
use Rattle.cil_blocks.specs.Contents.{Standing, same_spot}
use Rattle.cil_macros.specs.declared.chain.Brought.{Brought}
use Rattle.cil_macros.specs.declared.entry.Body.{Body}
use Rattle.cil_macros.specs.declared.entry.Called.{Called}

-- where something is written, as a key
abbrev pub Key : Type 0
Key = ℕ × ℕ

abbrev pub key_of : Spot → Key
key_of spot = (spot.«module», spot.at)

abbrev pub same_key : Key → Key → Bool
same_key a b = (a.0 == b.0) && (a.1 == b.1)

abbrev pub is_stated_at : Spot → Option Standing → Bool
is_stated_at spot None = false
is_stated_at spot (Some m) = same_spot spot m.statement.statement.at

-- the body is that of the macro that is written there
abbrev pub is_body_of : List Standing → Spot → Body → Bool
is_body_of ss spot b = is_stated_at spot (slice_get ss b.macro_rank)

-- the first body of each macro; and a call belongs to an earlier body than the one that it opens
pub record AreFirsts (ss : List Standing) (b : Brought) : Type 0 where
  pub first : (spot : Spot) → get same_key b.firsts (key_of spot) ≡ position (is_body_of ss spot) b.bodies.items
  pub in_turn : (i j : ℕ) (body : Body) (call : Called) → slice_get b.bodies.items i ≡ Some body → body.call ≡ length ss + j
      → slice_get b.entries.items j ≡ Some call → call.body < i

-- the number is kept for this macro, if none was; the others keep theirs
abbrev pub IsFirstKept : {S : Type 0} → Spot → ℕ → IndexMap Key ℕ S → IndexMap Key ℕ S → Type 0
IsFirstKept called number old new =
    (k : Key) → get same_key new k ≡ option_or (get same_key old k) (if same_key (key_of called) k then Some number else None)

-- what is at a place belongs to a body before this one, or to none
abbrev pub IsEarlier : List Called → ℕ → ℕ → ℕ → Type 0
IsEarlier cs first standing at = (j : ℕ) (c : Called) → at ≡ standing + j → slice_get cs j ≡ Some c → c.body < first
