-- When a cache of decisions is true, and which entries a look-up leaves. This project's profile.
use Rattle.std.specs.Prelude.{◌≡◌, ℕ, ◌-◌, Bool, List, ◌∷◌, take, Contains}
use Rattle.cil_avc.specs.declared.key.Key.{Key}
use Rattle.cil_decide.specs.declared.decision.Decision.{Decision}
use Rattle.cil_decide.specs.Decides.{Decided}
use Rattle.cil_decide.specs.tables.Table.{Table}

-- what is in a cache, the last used first, and how many entries it may hold
pub record Entries : Type 0 where
  pub entries : List (Key × Decision)
  pub cap : ℕ

-- the decision of tables on a key, where these booleans are on
abbrev pub IsAnswer : Table → (ℕ → Bool) → Key → Decision → Type 0
IsAnswer t on key d = Decided t on key.source key.target key.class.number d

-- a cache is true for tables and settings where each entry is their decision
abbrev pub IsTrueFor : Table → (ℕ → Bool) → List (Key × Decision) → Type 0
IsTrueFor t on entries = (key : Key) (d : Decision) → Contains entries (key, d) → IsAnswer t on key d

-- no entry is of this key
abbrev pub HasNone : Key → List (Key × Decision) → Type 0
HasNone key entries = (d : Decision) → Contains entries (key, d) → ⊥

-- the entry of a key, and the others in their order
pub data Parts (key : Key) (d : Decision) : List (Key × Decision) → List (Key × Decision) → Type 0 where
  here : (rest : List (Key × Decision)) → Parts key d ((key, d) ∷ rest) rest
  there : (e : Key × Decision) (rest others : List (Key × Decision)) → Parts key d rest others → Parts key d (e ∷ rest) (e ∷ others)

-- what a look-up leaves. A key that was there is in front, and the others follow in their order. A new key is in front too, and the last
-- entry is dropped where the cache was full. Out of memory, nothing changes
pub data Uses (old : Entries) (key : Key) (d : Decision) : Entries → Type 0 where
  known : (others : List (Key × Decision)) (new : Entries) → Parts key d old.entries others → new ≡ record { entries = (key, d) ∷ others; cap = old.cap }
      → Uses old key d new
  fresh : (new : Entries) → HasNone key old.entries → new ≡ record { entries = (key, d) ∷ take (old.cap - 1) old.entries; cap = old.cap } → Uses old key d new
  no_memory : (new : Entries) → HasNone key old.entries → new ≡ old → Uses old key d new
