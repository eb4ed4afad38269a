-- Terms that differ only in the places of their names and lists: they ask for the same, have the same values and give the same.
use Rattle.std.specs.Prelude.{Bool, true, false, ◌&&◌, ◌||◌, if◌then◌else◌, map}
use Rattle.std.proofs.Common.{◌≡◌, ℕ, List, ◌∷◌, ◌++◌, refl, sym, ◌∙◌, ap, subst}
use Rattle.cil_faults.specs.declared.spot.Spot.{Spot}
use Rattle.cil_syntax.specs.Expressions.{by_way, differ, is_in, is_in_each, is_in_odd, is_in_some, way_of}
use Rattle.cil_syntax.specs.Forms.{is_class_list}
use Rattle.cil_syntax.specs.Program.{statement_of}
use Rattle.cil_syntax.specs.Said.{args_of}
use Rattle.cil_syntax.specs.Scopes.{ScopedWord}
use Rattle.cil_syntax.specs.Written.{Statement as Said}
use Rattle.cil_syntax.specs.declared.program.Statement.{Statement}
use Rattle.cil_syntax.specs.Spelling.{same_bytes}
use Rattle.cil_syntax.specs.Terms.{Term, Leaf, Name, Form, Terms, nil, cons}
use Rattle.cil_syntax.specs.declared.kind.Keyword.{Keyword}
use Rattle.cil_syntax.specs.declared.term.Op.{Op}
use Rattle.cil_syntax.specs.declared.term.Op.TheVariants as ops
use Rattle.cil_macros.specs.Item.{Item, OptSet, all_replaced, all_words_in, replaced, words_in}
use Rattle.cil_macros.specs.Items.{Kept, SaysItsWords, item_at, placed_at, says_as_written, word_at}
use Rattle.cil_macros.specs.ListTerms.{AreAlike, IsAlike, all_spotless, nowhere, spotless}
use Rattle.cil_macros.proofs.ItemsThere.{keyword_there}
use Rattle.cil_names.specs.Declarations.{Symbol}
use Rattle.cil_known.specs.declared.known.Known.{Known}
use Rattle.cil_known.specs.Known.{row_in, value_in}
use Rattle.cil_names.specs.Resolves.{Permission as APermission, Word as AWord, all_wanted_in, has_permission, is_mapping, wanted_in, words_of_class, words_of_mapping, words_said}
use Rattle.cil_classes.specs.declared.assigned.Part.{Part}
use Rattle.cil_classes.specs.Given.{HasPair, Holder, mapped, named, of_class, of_map, of_name}
use Rattle.cil_classes.specs.Tied.{Direct, IsPart, Leads, direct, to_mapped, to_named}
use Rattle.cil_classes.specs.Values.{in_value}

-- ---- what they ask for

mutual
  unfolding replaced words_in

  words_alike : (t : Term ScopedWord) → words_in (spotless t) ≡ words_in t
  words_alike (Leaf w) = refl
  words_alike (Name at bytes) = refl
  words_alike (Form at op ts) = all_words_alike ts

  all_words_alike : (ts : Terms ScopedWord) → all_words_in (all_spotless ts) ≡ all_words_in ts
  all_words_alike nil = refl
  all_words_alike (cons t ts) = λ i. words_alike t i ++ all_words_alike ts i

class_words : (ts : Terms ScopedWord) → words_of_class (all_spotless ts) ≡ words_of_class ts
unfolding replaced
class_words nil = refl
class_words (cons (Leaf w) ts) = ap (λ ws. AWord w ∷ map (APermission w) ws) (all_words_alike ts)
class_words (cons (Name at bytes) ts) = refl
class_words (cons (Form at op parts) ts) = refl

mutual
  unfolding replaced wanted_in

  wanted_alike : (t : Term ScopedWord) → wanted_in (spotless t) ≡ wanted_in t
  wanted_alike (Leaf w) = refl
  wanted_alike (Name at bytes) = refl
  wanted_alike (Form at op ts) = λ i. if is_class_list op then class_words ts i else all_wanted_alike ts i

  all_wanted_alike : (ts : Terms ScopedWord) → all_wanted_in (all_spotless ts) ≡ all_wanted_in ts
  all_wanted_alike nil = refl
  all_wanted_alike (cons t ts) = λ i. wanted_alike t i ++ all_wanted_alike ts i

mapping_words : (ts : Terms ScopedWord) → words_of_mapping (all_spotless ts) ≡ words_of_mapping ts
unfolding replaced
mapping_words nil = refl
mapping_words (cons t nil) = class_words (cons t nil)
mapping_words (cons t (cons u ts)) = λ i. class_words (cons t (cons u nil)) i ++ all_wanted_alike ts i

-- statements that say alike terms ask for the same
pub said_alike : (k : Keyword) (ts us : Terms ScopedWord) → AreAlike ts us → words_said k ts ≡ words_said k us
said_alike k ts us same = sym (over ts) ∙ ap (words_said k) same ∙ over us
  where
    over : (vs : Terms ScopedWord) → words_said k (all_spotless vs) ≡ words_said k vs
    over vs = λ i. if is_mapping k then mapping_words vs i else all_wanted_alike vs i

-- ---- values

module _ (has : ScopedWord → Bool) (among : Bool) where
  mutual
    unfolding replaced is_in

    in_alike : (t : Term ScopedWord) → is_in has among (λ parts. false) (spotless t) ≡ is_in has among (λ parts. false) t
    in_alike (Leaf w) = refl
    in_alike (Name at bytes) = refl
    in_alike (Form at op ts) = λ i. by_way (way_of op) among (some_alike ts i) (each_alike ts i) (odd_alike ts i) false

    some_alike : (ts : Terms ScopedWord) → is_in_some has among (λ parts. false) (all_spotless ts) ≡ is_in_some has among (λ parts. false) ts
    some_alike nil = refl
    some_alike (cons t ts) = λ i. in_alike t i || some_alike ts i

    each_alike : (ts : Terms ScopedWord) → is_in_each has among (λ parts. false) (all_spotless ts) ≡ is_in_each has among (λ parts. false) ts
    each_alike nil = refl
    each_alike (cons t ts) = λ i. in_alike t i && each_alike ts i

    odd_alike : (ts : Terms ScopedWord) → is_in_odd has among (λ parts. false) (all_spotless ts) ≡ is_in_odd has among (λ parts. false) ts
    odd_alike nil = refl
    odd_alike (cons t ts) = λ i. differ (in_alike t i) (odd_alike ts i)

value_alike : (has : List ℕ → Bool) (e d : Term ScopedWord) (p : List ℕ) → IsAlike e d → in_value has e p ≡ in_value has d p
value_alike has e d p same =
    sym (in_alike (λ w. has p && same_bytes w.bytes p) (has p) e)
    ∙ ap (is_in (λ w. has p && same_bytes w.bytes p) (has p) (λ parts. false)) same
    ∙ in_alike (λ w. has p && same_bytes w.bytes p) (has p) d

-- ---- forms

abbrev op_or : Op → Term ScopedWord → Op
op_or other (Leaf w) = other
op_or other (Name at bytes) = other
op_or other (Form at op ts) = op

abbrev parts_in : Term ScopedWord → Terms ScopedWord
parts_in (Leaf w) = nil
parts_in (Name at bytes) = nil
parts_in (Form at op ts) = ts

abbrev first_or : Term ScopedWord → Terms ScopedWord → Term ScopedWord
first_or other nil = other
first_or other (cons t ts) = t

abbrev rest_in : Terms ScopedWord → Terms ScopedWord
rest_in nil = nil
rest_in (cons t ts) = ts

pub leaf_alike : (w : ScopedWord) (u : Term ScopedWord) → IsAlike (Leaf w) u → u ≡ Leaf w
unfolding replaced
leaf_alike w (Leaf v) e = sym e
leaf_alike w (Name at bytes) e = absurd (let f : Leaf w ≡ Name nowhere bytes = e in cc)
leaf_alike w (Form at op ts) e = absurd (let f : Leaf w ≡ Form nowhere op (all_spotless ts) = e in cc)

pub form_alike : (at : Spot) (op : Op) (ts : Terms ScopedWord) (u : Term ScopedWord) → IsAlike (Form at op ts) u → (bt : Spot) × (us : Terms ScopedWord) × (u ≡ Form bt op us) × AreAlike ts us
unfolding replaced
form_alike at op ts (Leaf w) e = absurd (let f : Form nowhere op (all_spotless ts) ≡ Leaf w = e in cc)
form_alike at op ts (Name bt bytes) e = absurd (let f : Form nowhere op (all_spotless ts) ≡ Name nowhere bytes = e in cc)
form_alike at op ts (Form bt oq us) e = (bt, us, ap (λ o. Form bt o us) (sym (ap (op_or op) e)), ap parts_in e)

none_alike : (us : Terms ScopedWord) → AreAlike nil us → us ≡ nil
unfolding all_replaced
none_alike nil e = refl
none_alike (cons u us) e = absurd (let f : nil ≡ cons (spotless u) (all_spotless us) = e in cc)

cons_alike : (t : Term ScopedWord) (ts us : Terms ScopedWord) → AreAlike (cons t ts) us → (u : Term ScopedWord) × (vs : Terms ScopedWord) × (us ≡ cons u vs) × IsAlike t u × AreAlike ts vs
unfolding all_replaced
cons_alike t ts nil e = absurd (let f : cons (spotless t) (all_spotless ts) ≡ nil = e in cc)
cons_alike t ts (cons u vs) e = (u, vs, refl, ap (first_or (spotless t)) e, ap rest_in e)

-- a word and one term behind it
pair_of_alike : (w : ScopedWord) (e : Term ScopedWord) (us : Terms ScopedWord) → AreAlike (cons (Leaf w) (cons e nil)) us → (d : Term ScopedWord) × (us ≡ cons (Leaf w) (cons d nil)) × IsAlike e d
pair_of_alike w e us same =
    let (a, vs, first, word, rest) = cons_alike (Leaf w) (cons e nil) us same in
    let (d, none, second, alike, last) = cons_alike e nil vs rest in
    (d, first ∙ (λ i. cons (leaf_alike w a word i) (second i)) ∙ ap (λ ts. cons (Leaf w) (cons d ts)) (none_alike none last), alike)

-- a word and two terms behind it
pub rule_alike : (w : ScopedWord) (t e : Term ScopedWord) (us : Terms ScopedWord) → AreAlike (cons (Leaf w) (cons t (cons e nil))) us
    → (u : Term ScopedWord) × (d : Term ScopedWord) × (us ≡ cons (Leaf w) (cons u (cons d nil))) × IsAlike t u × IsAlike e d
rule_alike w t e us same =
    let (a, vs, first, word, rest) = cons_alike (Leaf w) (cons t (cons e nil)) us same in
    let (u, ws, second, middle, others) = cons_alike t (cons e nil) vs rest in
    let (d, none, third, alike, last) = cons_alike e nil ws others in
    (u, d, first ∙ (λ i. cons (leaf_alike w a word i) (second i)) ∙ ap (λ ts. cons (Leaf w) (cons u ts)) (third ∙ ap (cons d) (none_alike none last)), middle, alike)

class_alike : (at : Spot) (w : ScopedWord) (e u : Term ScopedWord) → IsAlike (Form at ops.ClassPermissions (cons (Leaf w) (cons e nil))) u
    → (bt : Spot) × (d : Term ScopedWord) × (u ≡ Form bt ops.ClassPermissions (cons (Leaf w) (cons d nil))) × IsAlike e d
class_alike at w e u same =
    let (bt, us, is, parts) = form_alike at ops.ClassPermissions (cons (Leaf w) (cons e nil)) u same in
    let (d, two, alike) = pair_of_alike w e us parts in
    (bt, d, is ∙ ap (Form bt ops.ClassPermissions) two, alike)

-- ---- what they give

module _ (xs : List Item) (s : OptSet) where
  pub pair_alike : (t u : Term ScopedWord) (c : Symbol) (p : List ℕ) → IsAlike t u → HasPair xs s t c p → HasPair xs s u c p
  pair_alike t u c p same (of_class at word e d q stands value) =
      let (bt, f, is, alike) = class_alike at word e u same in
      subst (λ v. HasPair xs s v d q) (sym is) (of_class bt word f d q stands (sym (value_alike (has_permission xs d) e f q alike) ∙ value))
  pair_alike t u c p same (of_map at word e inner m d r q stands value given pair) =
      let (bt, f, is, alike) = class_alike at word e u same in
      subst (λ v. HasPair xs s v d q) (sym is) (of_map bt word f inner m d r q stands (sym (value_alike (has_permission xs m) e f r alike) ∙ value) given pair)
  pair_alike t u c p same (of_name word inner n d q stands given pair) = subst (λ v. HasPair xs s v d q) (sym (leaf_alike word u same)) (of_name word inner n d q stands given pair)

  direct_alike : (t u : Term ScopedWord) (c : Symbol) (p : List ℕ) → IsAlike t u → Direct xs s t c p → Direct xs s u c p
  direct_alike t u c p same (direct at word e d q stands value) =
      let (bt, f, is, alike) = class_alike at word e u same in
      subst (λ v. Direct xs s v d q) (sym is) (direct bt word f d q stands (sym (value_alike (has_permission xs d) e f q alike) ∙ value))

  leads_alike : (t u : Term ScopedWord) (h : Holder) → IsAlike t u → Leads xs s t h → Leads xs s u h
  leads_alike t u h same (to_mapped at word e m r stands value) =
      let (bt, f, is, alike) = class_alike at word e u same in
      subst (λ v. Leads xs s v (mapped m r)) (sym is) (to_mapped bt word f m r stands (sym (value_alike (has_permission xs m) e f r alike) ∙ value))
  leads_alike t u h same (to_named word n stands) = subst (λ v. Leads xs s v (named n)) (sym (leaf_alike word u same)) (to_named word n stands)

  pub part_alike : (node : ℕ → Holder → Type 0) (bit_of : (class_ bit : ℕ) → Symbol → List ℕ → Type 0) (g : Part) (t u : Term ScopedWord) → IsAlike t u → IsPart xs s node bit_of g t
      → IsPart xs s node bit_of g u
  part_alike node bit_of g t u same part = record {
    bits = λ class_ bit c p b. (
      (λ d. (part.bits class_ bit c p b).0 (direct_alike u t c p (sym same) d)),
      (λ e. direct_alike t u c p same ((part.bits class_ bit c p b).1 e)),
    );
    has_bit = λ c p d. part.has_bit c p (direct_alike u t c p (sym same) d);
    of_bit = part.of_bit;
    leads = λ v h n. ((λ l. (part.leads v h n).0 (leads_alike u t h (sym same) l)), (λ c. leads_alike t u h same ((part.leads v h n).1 c)));
    are_nodes = part.are_nodes;
  }

-- ---- items

-- two statements are the same but for the places of what they say
pub record IsLike (x y : Item) : Type 0 where
  pub keyword : x.keyword ≡ y.keyword
  pub round : x.round ≡ y.round
  pub branch : x.branch ≡ y.branch
  pub args : AreAlike x.args y.args

abbrev pub with_args : Item → Terms ScopedWord → Item
with_args x ts = record { keyword = x.keyword; at = x.at; space = x.space; args = ts; round = x.round; branch = x.branch }

pub like_args : (x : Item) (ts : Terms ScopedWord) → AreAlike ts x.args → IsLike (with_args x ts) x
like_args x ts same = record { keyword = refl; round = refl; branch = refl; args = same }

pub like_back : (x y : Item) → IsLike x y → IsLike y x
like_back x y l = record { keyword = sym l.keyword; round = sym l.round; branch = sym l.branch; args = sym l.args }

-- what they ask for has the same meanings
pub row_alike : (k : Known) (x : Item) (ts : Terms ScopedWord) → AreAlike ts x.args → row_in k x ≡ row_in k (with_args x ts)
row_alike k x ts same = ap (map (value_in k)) (sym (said_alike x.keyword ts x.args same))

-- where a statement says the words of what is written, it says that
module _ (i : Kept) (at : ℕ) (s : Statement) (is : statement_of s ≡ (placed_at i at).standing.statement.statement) where
  pub itself_there : SaysItsWords i at → says_as_written s.keyword ≡ true → (item_at i at).args ≡ all_replaced (λ at. at) (word_at i at) (args_of s)
  itself_there words written = words.written (ap says_as_written (keyword_there i at s is) ∙ written) ∙ ap (λ (t : Said). all_replaced (λ at. at) (word_at i at) t.args) (sym is)
