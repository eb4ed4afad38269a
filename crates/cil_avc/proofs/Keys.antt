-- Keys that are found to be equal are one, and each is found to be equal to itself.
use Rattle.std.proofs.Common.{◌≡◌, ℕ, true, List, refl, eqb}
use Rattle.std.specs.Cmp.Lexicographic.{pointwise}
use Rattle.std.proofs.lemmas.Bool.{and_from, and_parts, eqb-true}
use Rattle.std.proofs.lemmas.Bool.Decides.{Decides-eqb}
use Rattle.std.proofs.lemmas.Slice.Eq.{bytes_eq-Decides}
use Rattle.cil_decide.specs.mls.Categories.{Categories}
use Rattle.cil_decide.specs.mls.Level.{Level}
use Rattle.cil_decide.specs.constraints_crate.Context.{Context}
use Rattle.cil_decide.specs.classes.ClassId.{ClassId}
use Rattle.cil_decide.proofs.mls_lemmas.CategoriesPartialEq.TheImpl as categories
use Rattle.cil_decide.proofs.mls_lemmas.LevelPartialEq.TheImpl as level
use Rattle.cil_decide.proofs.constraints_crate_lemmas.ContextPartialEq.TheImpl as context
use Rattle.cil_decide.proofs.classes_lemmas.ClassIdPartialEq.TheImpl as class_id
use Rattle.cil_avc.specs.declared.key.Key.{Key}
use Rattle.cil_avc.specs.contracts.key.KeyPartialEq.TheImpl as key

same_words : (xs ys : List ℕ) → pointwise eqb xs ys ≡ true → xs ≡ ys
same_words xs ys e = (bytes_eq-Decides xs ys).0 e

categories_one : (a b : Categories) → (categories.eq-value).it a b ≡ true → a ≡ b
categories_one a b e = let w = same_words a.words b.words e in λ i. record { words = w i }

same_level : (a b : Level) → a.sensitivity ≡ b.sensitivity → a.categories ≡ b.categories → a ≡ b
same_level a b s c = λ i. record { sensitivity = s i; categories = c i }

level_one : (a b : Level) → (level.eq-value).it a b ≡ true → a ≡ b
level_one a b e =
    let p = and_parts _ _ e in
    same_level a b (eqb-true a.sensitivity b.sensitivity p.0) (categories_one a.categories b.categories p.1)

same_context : (a b : Context) → a.user ≡ b.user → a.role ≡ b.role → a.kind ≡ b.kind → a.low ≡ b.low → a.high ≡ b.high → a ≡ b
same_context a b u r k l h = λ i. record { user = u i; role = r i; kind = k i; low = l i; high = h i }

context_one : (a b : Context) → (context.eq-value).it a b ≡ true → a ≡ b
context_one a b e =
    let p = and_parts _ _ e in
    let q = and_parts _ _ p.1 in
    let r = and_parts _ _ q.1 in
    let s = and_parts _ _ r.1 in
    same_context a b (eqb-true a.user b.user p.0) (eqb-true a.role b.role q.0) (eqb-true a.kind b.kind r.0) (level_one a.low b.low s.0) (level_one a.high b.high s.1)

class_one : (a b : ClassId) → (class_id.eq-value).it a b ≡ true → a ≡ b
class_one a b e = let n = eqb-true a.number b.number e in λ i. record { number = n i }

same_key : (a b : Key) → a.source ≡ b.source → a.target ≡ b.target → a.class ≡ b.class → a ≡ b
same_key a b s t c = λ i. record { source = s i; target = t i; class = c i }

-- keys that are found to be equal are one
pub key_one : (a b : Key) → (key.eq-value).it a b ≡ true → a ≡ b
key_one a b e =
    let p = and_parts _ _ e in
    let q = and_parts _ _ p.1 in
    same_key a b (context_one a.source b.source p.0) (context_one a.target b.target q.0) (class_one a.class b.class q.1)

number_same : (n : ℕ) → eqb n n ≡ true
number_same n = (Decides-eqb n n).1 refl

level_same : (a : Level) → (level.eq-value).it a a ≡ true
level_same a = and_from _ _ (number_same a.sensitivity) ((bytes_eq-Decides a.categories.words a.categories.words).1 refl)

context_same : (a : Context) → (context.eq-value).it a a ≡ true
context_same a =
    and_from _ _ (number_same a.user) (and_from _ _ (number_same a.role) (and_from _ _ (number_same a.kind) (and_from _ _ (level_same a.low) (level_same a.high))))

-- a key is found to be equal to itself
pub key_same : (a : Key) → (key.eq-value).it a a ≡ true
key_same a = and_from _ _ (context_same a.source) (and_from _ _ (context_same a.target) (number_same a.class.number))
