-- What a look-up leaves, over the entries as the library keeps them.
use Rattle.std.proofs.Common.{◌≡◌, ℕ, ◌-◌, Bool, true, false, List, [], ◌∷◌, take, Option, Some, None, refl, sym, ap, subst, ◌∙◌, inl, inr}
use Rattle.std.specs.Prelude.{Contains, Result, Ok, Err, OnOk, OnErr, ◌⊎◌}
use Rattle.std.specs.Map.{lookup, lookup_entry, remove_entry}
use Rattle.lru.specs.LruCache.{LruCache, lru_cache, promoted, put_entries}
use Rattle.lru.proofs.CallerLemmas.{Contains-lookup, Contains-lookup_entry, Contains-promoted, Contains-take}
use Rattle.lru.proofs.Splits.{Contains-cons, Contains-nil}
use Rattle.cil_avc.specs.declared.key.Key.{Key}
use Rattle.cil_avc.specs.contracts.key.KeyPartialEq.TheImpl as key_impl
use Rattle.cil_avc.specs.Cache.{Entries, IsAnswer, IsTrueFor, HasNone, Parts, here, there, Uses, known, fresh, no_memory}
use Rattle.cil_decide.specs.declared.decision.Decision.{Decision}
use Rattle.cil_decide.specs.tables.Table.{Table}
use Rattle.cil_avc.proofs.Keys.{key_one, key_same}

abbrev pub same : Key → Key → Bool
same = (key_impl.eq-value).it

-- an entry that is found is of the key
pub found : (key : Key) (entries : List (Key × Decision)) (d : Decision) → lookup (same key) entries ≡ Some d → Contains entries (key, d)
found key entries d e =
    let f = Contains-lookup (same key) entries d e in
    subst (λ (k : Key). Contains entries (k, d)) (sym (key_one key f.0 f.2)) f.1

abbrev IsMoved : Key → Decision → List (Key × Decision) → Type 0
IsMoved key d entries =
    ((e : Key × Decision) × (lookup_entry (same key) entries ≡ Some e) × (e ≡ (key, d))) × Parts key d entries (remove_entry (same key) entries)

moved_by : (key : Key) (d : Decision) (f : Key × Decision) (rest : List (Key × Decision)) → lookup (same key) (f ∷ rest) ≡ Some d → (lookup (same key) rest ≡ Some d → IsMoved key d rest)
    → (b : Bool) → same key f.0 ≡ b → IsMoved key d (f ∷ rest)
moved_by key d f rest e later true t =
    let h = rw t at e in
    let value : f.1 ≡ d = cc in
    let is_key : f.0 ≡ key = sym (key_one key f.0 t) in
    let whole : f ≡ (key, d) = λ i. (is_key i, value i) in
    ((f, rw t refl, whole), rw t (subst (λ (g : Key × Decision). Parts key d (g ∷ rest) rest) (sym whole) (here rest)))
moved_by key d f rest e later false t =
    let on = later (rw t at e) in
    ((on.0.0, rw t on.0.1, on.0.2), rw t (there f rest (remove_entry (same key) rest) on.1))

parts_at : (key : Key) (d : Decision) (entries : List (Key × Decision)) → lookup (same key) entries ≡ Some d → IsMoved key d entries
parts_at key d [] e = absurd cc
parts_at key d (f ∷ rest) e = moved_by key d f rest e (λ h. parts_at key d rest h) (same key f.0) refl

pub moved : (key : Key) (d : Decision) (entries : List (Key × Decision)) → lookup (same key) entries ≡ Some d
    → (others : List (Key × Decision)) × Parts key d entries others × (promoted (same key) entries ≡ (key, d) ∷ others)
moved key d entries e =
    let p = parts_at key d entries e in
    (remove_entry (same key) entries, p.1, rw p.0.1 (ap (λ (g : Key × Decision). g ∷ remove_entry (same key) entries) p.0.2))

-- where none is found there is none
missing_by : (key : Key) (f : Key × Decision) (rest : List (Key × Decision)) → lookup (same key) (f ∷ rest) ≡ None → (lookup (same key) rest ≡ None → HasNone key rest)
    → (b : Bool) → same key f.0 ≡ b → HasNone key (f ∷ rest)
missing_by key f rest e later true t d c = let h = rw t at e in cc
missing_by key f rest e later false t d c =
    elim (Contains-cons f rest (key, d) c) [
      | inl is ↦ let is_key : f.0 ≡ key = ap (λ (g : Key × Decision). g.0) is in let is_same : same key f.0 ≡ true = rw is_key (key_same key) in cc
      | inr there_ ↦ later (rw t at e) d there_
    ]

pub missing : (key : Key) (entries : List (Key × Decision)) → lookup (same key) entries ≡ None → HasNone key entries
missing key [] e = λ d c. Contains-nil (key, d) c
missing key (f ∷ rest) e = missing_by key f rest e (λ h. missing key rest h) (same key f.0) refl

no_entry : (key : Key) (entries : List (Key × Decision)) → lookup (same key) entries ≡ None → (o : Option (Key × Decision)) → lookup_entry (same key) entries ≡ o → o ≡ None
no_entry key entries e None o = refl
no_entry key entries e (Some f) o =
    let was = Contains-lookup_entry (same key) entries f o in
    let is_key : key ≡ f.0 = key_one key f.0 was.1 in
    let whole : f ≡ (key, f.1) = λ i. (sym is_key i, f.1) in
    absurd (missing key entries e f.1 (subst (Contains entries) whole was.0))

-- a new key goes in front, and the last one out where the cache is full
pub put_new : (c : LruCache Key Decision) (key : Key) (d : Decision) → lookup (same key) c.entries ≡ None → put_entries same c key d ≡ (key, d) ∷ take (c.cap - 1) c.entries
put_new c key d e = let o = no_entry key c.entries e (lookup_entry (same key) c.entries) refl in rw o refl

-- a true cache stays true
pub true_after : (t : Table) (on : ℕ → Bool) (key : Key) (d : Decision) (n : ℕ) (entries : List (Key × Decision)) → IsTrueFor t on entries → IsAnswer t on key d
    → IsTrueFor t on ((key, d) ∷ take n entries)
true_after t on key d n entries all now other v c =
    elim (Contains-cons (key, d) (take n entries) (other, v) c) [
      | inl is ↦ subst (λ (e : Key × Decision). IsAnswer t on e.0 e.1) is now
      | inr there_ ↦ all other v (Contains-take n entries (other, v) there_)
    ]

-- a put stored, or changed nothing
pub either : {X E V : Type 0} (r : Result X E) (new a old : V) → OnOk r (new ≡ a) → OnErr r (new ≡ old) → (new ≡ a) ⊎ (new ≡ old)
either (Ok x) new a old p q = inl p
either (Err x) new a old p q = inr q

abbrev pub entries_of : LruCache Key Decision → Entries
entries_of c = record { entries = c.entries; cap = c.cap }

-- the two ends of a look-up, over the cache as the library keeps it
pub after_hit : (old new : LruCache Key Decision) (key : Key) (d : Decision) → lookup (same key) old.entries ≡ Some d → new ≡ lru_cache (promoted (same key) old.entries) old.cap → Uses (entries_of old) key d (entries_of new)
after_hit old new key d e is =
    let (others, parts, moved_is) = moved key d old.entries e in
    known others (entries_of new) parts (ap entries_of is ∙ ap (λ (es : List (Key × Decision)). record { entries = es; cap = old.cap }) moved_is)

pub true_hit : (t : Table) (on : ℕ → Bool) (old new : LruCache Key Decision) (key : Key) → IsTrueFor t on old.entries → new ≡ lru_cache (promoted (same key) old.entries) old.cap → IsTrueFor t on new.entries
true_hit t on old new key all is other d c =
    all other d (Contains-promoted (same key) old.entries (other, d) (subst (λ (w : LruCache Key Decision). Contains w.entries (other, d)) is c))

pub after_miss : (old new : LruCache Key Decision) (key : Key) (d : Decision) → lookup (same key) old.entries ≡ None → (new ≡ lru_cache (put_entries same old key d) old.cap) ⊎ (new ≡ old)
    → Uses (entries_of old) key d (entries_of new)
after_miss old new key d e (inl is) =
    fresh (entries_of new) (missing key old.entries e) (ap entries_of is ∙ ap (λ (es : List (Key × Decision)). record { entries = es; cap = old.cap }) (put_new old key d e))
after_miss old new key d e (inr is) = no_memory (entries_of new) (missing key old.entries e) (ap entries_of is)

pub true_miss : (t : Table) (on : ℕ → Bool) (old new : LruCache Key Decision) (key : Key) (d : Decision) → lookup (same key) old.entries ≡ None → IsTrueFor t on old.entries → IsAnswer t on key d
    → (new ≡ lru_cache (put_entries same old key d) old.cap) ⊎ (new ≡ old) → IsTrueFor t on new.entries
true_miss t on old new key d e all now (inl is) =
    let entries_are : new.entries ≡ (key, d) ∷ take (old.cap - 1) old.entries = ap (λ (w : LruCache Key Decision). w.entries) is ∙ put_new old key d e in
    subst (IsTrueFor t on) (sym entries_are) (true_after t on key d (old.cap - 1) old.entries all now)
true_miss t on old new key d e all now (inr is) = subst (λ (w : LruCache Key Decision). IsTrueFor t on w.entries) (sym is) all
