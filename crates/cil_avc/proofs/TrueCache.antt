-- What a caller needs to keep a cache true: an empty one is true for any tables and settings, and so is one that was flushed.
use Rattle.std.proofs.Common.{◌≡◌, ℕ, Bool, [], take, sym, subst}
use Rattle.lru.proofs.CallerLemmas.{Contains-take}
use Rattle.lru.proofs.Splits.{Contains-nil}
use Rattle.cil_avc.specs.Cache.{Entries, IsTrueFor}
use Rattle.cil_decide.specs.tables.Table.{Table}

-- an empty cache is true for any tables and settings
pub true_empty : (t : Table) (on : ℕ → Bool) → IsTrueFor t on []
true_empty t on key d c = absurd (Contains-nil (key, d) c)

-- so is one of which a call says that it has no entries, as `new` and `flush` do
pub true_flushed : (t : Table) (on : ℕ → Bool) (avc : Entries) (cap : ℕ) → avc ≡ record { entries = []; cap = cap } → IsTrueFor t on avc.entries
true_flushed t on avc cap is = subst (λ (a : Entries). IsTrueFor t on a.entries) (sym is) (true_empty t on)

-- the first entries of a true cache are a true cache, as `resize` leaves it
pub true_resized : (t : Table) (on : ℕ → Bool) (old new : Entries) (cap : ℕ) → IsTrueFor t on old.entries → new ≡ record { entries = take cap old.entries; cap = cap }
    → IsTrueFor t on new.entries
true_resized t on old new cap all is =
    subst (λ (a : Entries). IsTrueFor t on a.entries) (sym is) (λ key d c. all key d (Contains-take cap old.entries (key, d) c))
