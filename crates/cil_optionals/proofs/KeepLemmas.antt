-- What resolves goes on to resolve where more optionals are in.
use Rattle.std.specs.Prelude.{Option, Some, find}
use Rattle.std.specs.Option.{is_some}
use Rattle.std.specs.List.{list_any, list_all}
use Rattle.std.proofs.Common.{◌≡◌, ℕ, Bool, true, false, ◌&&◌, ◌||◌, cond, List, [], ◌∷◌, refl, ap}
use Rattle.cil_syntax.specs.declared.kind.Sign.{Sign}
use Rattle.cil_faults.specs.Namespaces.{Namespace}
use Rattle.cil_syntax.specs.Scopes.{asked, spaces_asked}
use Rattle.cil_names.specs.Declarations.{declared_by, object_role}
use Rattle.cil_macros.specs.Item.{Item, OptSet, is_enabled}
use Rattle.cil_names.specs.Resolves.{Wanted, Word, Permission, fits, found_in, has, resolves}
use Rattle.cil_optionals.specs.Greatest.{LiesIn}

and_both : (a b : Bool) → (a && b) ≡ true → (a ≡ true) × (b ≡ true)
and_both true b h = (refl, h)
and_both false b h = absurd (let e : false ≡ true = h in cc)

both_and : (a b : Bool) → a ≡ true → b ≡ true → (a && b) ≡ true
both_and true b g h = h
both_and false b g h = absurd (let e : false ≡ true = g in cc)

or_keeps : (a b c : Bool) → (b ≡ true → c ≡ true) → (a || b) ≡ true → (a || c) ≡ true
or_keeps true b c f h = refl
or_keeps false b c f h = f h

or_both : (a b c d : Bool) → (a ≡ true → c ≡ true) → (b ≡ true → d ≡ true) → (a || b) ≡ true → (c || d) ≡ true
or_both true b c d f g h = ap (λ z. z || d) (f refl)
or_both false b true d f g h = refl
or_both false b false d f g h = g h

all_keeps : (s t : OptSet) → LiesIn s t → (os : List ℕ) → list_all s os ≡ true → list_all t os ≡ true
all_keeps s t f [] h = refl
all_keeps s t f (o ∷ os) h = let p = and_both (s o) (list_all s os) h in both_and (t o) (list_all t os) (f o p.0) (all_keeps s t f os p.1)

any_keeps : {A : Type 0} (p q : A → Bool) → ((x : A) → p x ≡ true → q x ≡ true) → (xs : List A) → list_any p xs ≡ true → list_any q xs ≡ true
any_keeps p q f [] h = h
any_keeps p q f (x ∷ xs) h = or_both (p x) (list_any p xs) (q x) (list_any q xs) (f x) (any_keeps p q f xs) h

enabled_keeps : (s t : OptSet) → LiesIn s t → (d : Bool) (x : Item) → (is_enabled s x && d) ≡ true → (is_enabled t x && d) ≡ true
enabled_keeps s t f d x h = let p = and_both (is_enabled s x) d h in both_and (is_enabled t x) d (all_keeps s t f x.round p.0) p.1

pub has_keeps : (xs : List Item) (s t : OptSet) → LiesIn s t → (name : List ℕ) (sign : Sign) (n : Namespace) → has xs s name sign n ≡ true → has xs t name sign n ≡ true
unfolding has
has_keeps xs s t f name sign n h =
    or_keeps (fits name sign n object_role) (list_any (λ x. is_enabled s x && list_any (fits name sign n) (declared_by x)) xs)
    (list_any (λ x. is_enabled t x && list_any (fits name sign n) (declared_by x)) xs)
    (any_keeps _ _ (λ x. enabled_keeps s t f (list_any (fits name sign n) (declared_by x)) x) xs) h

pub find_keeps : {A : Type 0} (p q : A → Bool) → ((n : A) → p n ≡ true → q n ≡ true) → (ns : List A) → is_some (find p ns) ≡ true → is_some (find q ns) ≡ true
find_keeps p q f [] h = h
find_keeps p q f (n ∷ ns) h = found_step (p n) (q n) n (find p ns) (find q ns) (f n) (find_keeps p q f ns) h where
  found_step : {A : Type 0} (a b : Bool) (n : A) (x y : Option A) → (a ≡ true → b ≡ true) → (is_some x ≡ true → is_some y ≡ true)
      → is_some (cond a (Some n) x) ≡ true → is_some (cond b (Some n) y) ≡ true
  found_step true true n x y f g h = refl
  found_step true false n x y f g h = absurd (let e = f refl in cc)
  found_step false true n x y f g h = refl
  found_step false false n x y f g h = g h

pub resolves_keeps : (xs : List Item) (s t : OptSet) (w : Wanted) → LiesIn s t → resolves xs s w ≡ true → resolves xs t w ≡ true
unfolding found_in
resolves_keeps xs s t (Word w) f h =
    find_keeps (has xs s (asked w.bytes).name w.sign) (has xs t (asked w.bytes).name w.sign) (has_keeps xs s t f (asked w.bytes).name w.sign) (spaces_asked (asked w.bytes) w.scope) h
resolves_keeps xs s t (Permission c w) f h = h
