-- What stands, by what opened it: through which blockinherits it came, and the order of two paths.
use Rattle.std.proofs.Common.{◌≡◌, ℕ, zero, suc, ◌+◌, ◌<◌, ◌≤◌, true, false, List, [], ◌∷◌, ◌++◌, length, refl, sym, ◌∙◌, ap, subst, arith}
use Rattle.std.specs.Prelude.{Contains, Option, Some, None, slice_get}
use Rattle.std.specs.declared.cmp.Ordering.{Ordering}
use Rattle.std.specs.declared.cmp.Ordering.TheVariants.{Less, Equal, Greater}
use Rattle.std.specs.Ordering.{ordering_then}
use Rattle.std.specs.Cmp.Lexicographic.{slice_cmp}
use Rattle.std.proofs.lemmas.List.{length-append}
use Rattle.cil_base.specs.Places.{get_behind, get_contains, get_in_front, get_so, in_range, none_some, not_there, some_at, some_same}
use Rattle.cil_syntax.specs.declared.kind.Keyword.{Keyword}
use Rattle.cil_syntax.specs.declared.kind.Keyword.TheVariants as keywords
use Rattle.cil_syntax.specs.declared.program.Statement.{Statement}
use Rattle.cil_faults.specs.declared.spot.Spot.{Spot}
use Rattle.cil_syntax.specs.declared.term.Word.{Word}
use Rattle.cil_syntax.specs.Program.{IsNested, begins_as, begins_with_word, is_begun, program_of, statement_of}
use Rattle.cil_syntax.specs.Terms.{Leaf, Name, Form, Terms, nil, cons}
use Rattle.cil_syntax.specs.Written.{Written}
use Rattle.cil_blocks.specs.declared.entry.Entry.{Entry}
use Rattle.cil_blocks.specs.Contents.{Standing, Stands, first_word, is_inheriting, path_of, spot_cmp, top, in_block, in_branch, in_optional, inherited}
use Rattle.cil_blocks.specs.Entries.{nothing, opener_of, standing_as, standing_through, standing_under, standings_from, standings_of, statement_at, stepped}
use Rattle.cil_blocks.specs.InheritFaults.{unresolved}
use Rattle.cil_blocks.specs.Opens.{target_of}
use Rattle.cil_blocks.specs.Reports.{AreContents}
use Rattle.cil_blocks.proofs.EntryLemmas.{standings_length}
use Rattle.cil_blocks.proofs.LawLemmas.{have_one_target}
use Rattle.cil_blocks.proofs.NameLemmas.{at_none, at_some}
use Rattle.cil_blocks.proofs.StandingWalk.{is_the_target}
use Rattle.cil_macros.specs.Nearest.{IsCameThrough, IsOpenedBy}
use Rattle.cil_macros.proofs.ChainLemmas.{stated}

-- ---- what opened an entry

-- an opener, where it is below
abbrev pub IsLowered : Option ℕ → ℕ → Option ℕ → Type 0
IsLowered x at None = (k : ℕ) → x ≡ Some k → at ≤ k
IsLowered x at (Some k) = (x ≡ Some k) × (k < at)

module _ (ws : List Written) where
  longer : (done : List Standing) (s : Standing) → length (done ++ s ∷ []) ≡ suc (length done)
  longer done s = length-append done (s ∷ []) ∙ (let e : length done + 1 ≡ suc (length done) = omega arith in e)

  front : (done : List Standing) (es : List Entry) (k : ℕ) → k < length done → slice_get (standings_from ws done es) k ≡ slice_get done k
  unfolding standings_from
  front done [] k h = refl
  front done (e ∷ es) k h =
      let s = stepped ws done e.opener e.statement in
      front (done ++ s ∷ []) es k (let l = longer done s in omega (arith, l, h)) ∙ get_in_front done (s ∷ []) k h

  lowered : (done all : List Standing) (x : Option ℕ) (o : Option ℕ) → ((k : ℕ) → k < length done → slice_get all k ≡ slice_get done k) → IsLowered x (length done) o
      → opener_of done x ≡ opener_of all o
  lowered done all None None same low = refl
  lowered done all (Some k) None same low = not_there done k (low k refl)
  lowered done all x (Some k) same low = ap (opener_of done) low.0 ∙ sym (same k low.1)

  opened_from : (done : List Standing) (es : List Entry) (j at : ℕ) (e : Entry) (o : Option ℕ) → slice_get es j ≡ Some e → at ≡ length done + j → IsLowered e.opener at o
      → slice_get (standings_from ws done es) at ≡ Some (stepped ws (standings_from ws done es) o e.statement)
  unfolding standings_from
  opened_from done [] j at e o here is low = absurd (none_some e here)
  opened_from done (x ∷ xs) zero at e o here is low =
      let same : x ≡ e = some_same x e here in
      let s = stepped ws done x.opener x.statement in
      let l = longer done s in
      let place : at ≡ length done = omega (arith, is) in
      front (done ++ s ∷ []) xs at (omega (arith, l, place))
      ∙ get_behind done (s ∷ []) 0 at (omega (arith, place))
      ∙ ap (λ (y : Entry). Some (stepped ws done y.opener y.statement)) same
      ∙ ap (λ p. Some (standing_under ws p (statement_at ws e.statement)))
      (lowered done (standings_from ws (done ++ s ∷ []) xs) e.opener o
      (λ k h. front (done ++ s ∷ []) xs k (omega (arith, l, h)) ∙ get_in_front done (s ∷ []) k h)
      (subst (λ n. IsLowered e.opener n o) place low))
  opened_from done (x ∷ xs) (suc j) at e o here is low =
      let s = stepped ws done x.opener x.statement in
      let l = longer done s in
      opened_from (done ++ s ∷ []) xs j at e o here (omega (arith, l, is)) low

  pub opened_by : (es : List Entry) (at : ℕ) (e : Entry) (o : Option ℕ) (s : Standing) → slice_get es at ≡ Some e → IsLowered e.opener at o
      → slice_get (standings_of ws es) at ≡ Some s → IsOpenedBy ws (standings_of ws es) s o
  opened_by es at e o s here low is = record {
    statement = statement_at ws e.statement;
    so = some_same s (stepped ws (standings_of ws es) o e.statement) (sym is ∙ opened_from [] es at at e o here (omega arith) low);
  }

  pub none_stands : (es : List Entry) (at : ℕ) (s : Standing) → length es ≤ at → slice_get (standings_of ws es) at ≡ Some s → ⊥
  none_stands es at s over is = let l = standings_length ws es in let h = in_range (standings_of ws es) at s is in omega (arith, l, h, over)

  -- ---- chains

  chain_other : (s : Standing) (k : Keyword) (w : Written) → is_inheriting k ≡ false → (standing_as ws s k w).chain ≡ s.chain
  chain_other s keywords.BlockInherit w e = absurd (let f : true ≡ false = e in cc)
  chain_other s k w e = refl

  chain_inherited : (s : Standing) (k : Keyword) (b w : Written) → is_inheriting k ≡ true → target_of ws s.statement ≡ Some b → (standing_as ws s k w).chain ≡ path_of s
  chain_inherited s keywords.BlockInherit b w e t = ap (λ o. (standing_through s o w).chain) t
  chain_inherited s k b w e t = absurd (let f : false ≡ true = e in cc)

  written : (s : Standing) → Stands ws s → Contains ws s.statement
  written s (top w c u) = c
  written s (in_block p w st k a c i) = c
  written s (in_optional p w st k c i) = c
  written s (in_branch p w st k c i) = c
  written s (inherited p b w st k t c i) = c

-- something came through the same blockinherits as what stands at a place
pub record IsReached (all : List Standing) (place : ℕ) (s : Standing) : Type 0 where
  pub by : Standing
  pub is : slice_get all place ≡ Some by
  pub so : s.chain ≡ by.chain

pub reached_itself : (all : List Standing) (at : ℕ) (s : Standing) → slice_get all at ≡ Some s → IsReached all at s
reached_itself all at s e = record { by = s; is = e; so = refl }

begun_word : (k : Keyword) (args : Terms Word) → is_inheriting k ≡ true → is_begun k args ≡ true → begins_with_word args ≡ true
unfolding begins_as
begun_word keywords.BlockInherit args e f = f
begun_word k args e f = absurd (let g : false ≡ true = e in cc)

front_word : (args : Terms Word) → begins_with_word args ≡ true → (w : Word) × (first_word args ≡ Some w)
front_word nil e = absurd (let g : false ≡ true = e in cc)
front_word (cons (Leaf w) ts) e = (w, refl)
front_word (cons (Name at name) ts) e = absurd (let g : false ≡ true = e in cc)
front_word (cons (Form at op parts) ts) e = absurd (let g : false ≡ true = e in cc)

module _ (ss : List Statement) (es : List Entry) (are : AreContents ss es) where
  abbrev ws : List Written
  ws = program_of ss

  abbrev all : List Standing
  all = standings_of (program_of ss) es

  some_target : (w : Written) (o : Option Written) → Contains (program_of ss) w → is_inheriting w.statement.keyword ≡ true → target_of (program_of ss) w ≡ o
      → (b : Written) × (target_of (program_of ss) w ≡ Some b)
  some_target w (Some b) c k e = (b, e)
  some_target w None c k e =
      let word = front_word w.statement.args (begun_word w.statement.keyword w.statement.args k (are.nested.begun w c)) in
      absurd (are.lawful _ (unresolved w word.0 c k word.1
      (λ b t. none_some b (sym e ∙ is_the_target (program_of ss) (have_one_target ss are.nested are.lawful) w b t))))

  is_written : (k : ℕ) (p : Standing) → slice_get (standings_of (program_of ss) es) k ≡ Some p → Contains (program_of ss) p.statement
  is_written k p e = written (program_of ss) p ((are.standings.members p).0 (get_contains (standings_of (program_of ss) es) k p e))

  module _ (place : ℕ) (s : Standing) (reached : IsReached (standings_of (program_of ss) es) place s) where
    -- at the top
    none_round : (o : Option Standing) (w : Written) → reached.by ≡ standing_under (program_of ss) o w → o ≡ None → s.chain ≡ []
    none_round o w e f = reached.so ∙ ap (λ (x : Standing). x.chain) e ∙ ap (λ x. (standing_under (program_of ss) x w).chain) f

    pub came_from_top : IsOpenedBy (program_of ss) (standings_of (program_of ss) es) reached.by None → s.chain ≡ []
    came_from_top opened = none_round None opened.statement opened.so refl

    module _ (k : ℕ) (low : k < place) (opened : IsOpenedBy (program_of ss) (standings_of (program_of ss) es) reached.by (Some k)) where
      opener : (p : Standing) × (slice_get (standings_of (program_of ss) es) k ≡ Some p)
      opener = let h = in_range (standings_of (program_of ss) es) place reached.by reached.is in some_at (standings_of (program_of ss) es) k (omega (arith, h, low))

      by_opener : reached.by ≡ standing_as (program_of ss) opener.0 opener.0.statement.statement.keyword opened.statement
      by_opener = opened.so ∙ ap (λ o. standing_under (program_of ss) o opened.statement) opener.1

      -- through a block
      pub through_block : ((p : Standing) → slice_get (standings_of (program_of ss) es) k ≡ Some p → false ≡ is_inheriting p.statement.statement.keyword) → IsReached (standings_of (program_of ss) es) k s
      through_block other = record {
        by = opener.0;
        is = opener.1;
        so = reached.so ∙ ap (λ (x : Standing). x.chain) by_opener
            ∙ chain_other (program_of ss) opener.0 opener.0.statement.statement.keyword opened.statement (sym (other opener.0 opener.1));
      }

      -- through a blockinherit
      pub through_inherit : ((p : Standing) → slice_get (standings_of (program_of ss) es) k ≡ Some p → true ≡ is_inheriting p.statement.statement.keyword)
          → IsCameThrough (standings_of (program_of ss) es) s k
      through_inherit other =
          let kind = sym (other opener.0 opener.1) in
          let target = some_target opener.0.statement (target_of (program_of ss) opener.0.statement) (is_written k opener.0 opener.1) kind refl in
          record {
            by = opener.0;
            is = opener.1;
            so = reached.so ∙ ap (λ (x : Standing). x.chain) by_opener
                ∙ chain_inherited (program_of ss) opener.0 opener.0.statement.statement.keyword target.0 opened.statement kind target.1;
          }

-- ---- the statement of an entry

module _ (ss : List Statement) (nested : IsNested ss) (es : List Entry) (at : ℕ) (e : Entry) (here : slice_get es at ≡ Some e) (s : Standing)
    (is : slice_get (standings_of (program_of ss) es) at ≡ Some s) where
  stated_so : s.statement ≡ statement_at (program_of ss) e.statement
  stated_so =
      stated ss nested es at e (in_range es at e here) s is
      ∙ ap (λ (x : Entry). statement_at (program_of ss) x.statement) (get_so es at e e here)

  pub stated_none : slice_get ss e.statement ≡ None → s.statement ≡ nothing
  stated_none none = stated_so ∙ at_none ss nested e.statement none

  pub stated_some : (x : Statement) → slice_get ss e.statement ≡ Some x → s.statement.statement ≡ statement_of x
  stated_some x some = ap (λ (w : Written). w.statement) (stated_so ∙ at_some ss nested e.statement x some)

-- ---- lengths

pub path_length : (s : Standing) → length (path_of s) ≡ length s.chain + 1
path_length s = length-append s.chain (s.statement.statement.at ∷ [])

-- so many statements of the path of something are below a place
pub record IsCounted (all : List Standing) (place count : ℕ) (s : Standing) : Type 0 where
  pub by : Standing
  pub is : slice_get all place ≡ Some by
  pub so : length (path_of by) + count ≡ length (path_of s) + 1

module _ (all : List Standing) where
  pub counted_itself : (at : ℕ) (s : Standing) → slice_get all at ≡ Some s → IsCounted all at 1 s
  counted_itself at s e = record { by = s; is = e; so = refl }

  pub counted_more : (place k count : ℕ) (s : Standing) (so : IsCounted all place count s) → IsCameThrough all so.by k → IsCounted all k (count + 1) s
  counted_more place k count s so came = record {
    by = came.by;
    is = came.is;
    so = let old = so.so in let p = path_length so.by in let c = ap length came.so in omega (arith, old, p, c);
  }

  pub counted_all : (place count : ℕ) (s : Standing) (so : IsCounted all place count s) → so.by.chain ≡ [] → count ≡ length (path_of s)
  counted_all place count s so none = let old = so.so in let p = path_length so.by in let c = ap length none in omega (arith, old, p, c)

-- ---- the order of two paths of one length

then_assoc : (a b c : Ordering) → ordering_then (ordering_then a b) c ≡ ordering_then a (ordering_then b c)
then_assoc Less b c = refl
then_assoc Equal b c = refl
then_assoc Greater b c = refl

then_nothing : (a : Ordering) → ordering_then a Equal ≡ a
then_nothing Less = refl
then_nothing Equal = refl
then_nothing Greater = refl

-- of two lists of one length the last items decide, if those before them are alike
last_decides : (xs ys : List Spot) (x y : Spot) → length xs ≡ length ys → slice_cmp spot_cmp (xs ++ x ∷ []) (ys ++ y ∷ []) ≡ ordering_then (slice_cmp spot_cmp xs ys) (spot_cmp x y)
last_decides [] [] x y e = then_nothing (spot_cmp x y)
last_decides [] (b ∷ ys) x y e = absurd (omega (arith, e))
last_decides (a ∷ xs) [] x y e = absurd (omega (arith, e))
last_decides (a ∷ xs) (b ∷ ys) x y e =
    ap (ordering_then (spot_cmp a b)) (last_decides xs ys x y (omega (arith, e))) ∙ sym (then_assoc (spot_cmp a b) (slice_cmp spot_cmp xs ys) (spot_cmp x y))

-- the order of two paths is that of the chains of what stands at two places, and then this
pub record AreOrdered (all : List Standing) (a b : ℕ) (order : Ordering) (s t : Standing) : Type 0 where
  pub one : Standing
  pub is_one : slice_get all a ≡ Some one
  pub other : Standing
  pub is_other : slice_get all b ≡ Some other
  pub long : length one.chain ≡ length other.chain
  pub so : slice_cmp spot_cmp (path_of s) (path_of t) ≡ ordering_then (slice_cmp spot_cmp one.chain other.chain) order

one_shorter : (s t : Standing) → length (path_of s) ≡ length (path_of t) → length s.chain ≡ length t.chain
one_shorter s t e = let p = path_length s in let q = path_length t in omega (arith, e, p, q)

none_long : {X : Type 0} (xs : List X) → length xs ≡ 0 → xs ≡ []
none_long [] e = refl
none_long (x ∷ xs) e = absurd (omega (arith, e))

module _ (all : List Standing) where
  pub ordered_itself : (a b : ℕ) (s t : Standing) (order : Ordering) → slice_get all a ≡ Some s → slice_get all b ≡ Some t → length (path_of s) ≡ length (path_of t)
      → order ≡ spot_cmp s.statement.statement.at t.statement.statement.at → AreOrdered all a b order s t
  ordered_itself a b s t order here there long is = record {
    one = s;
    is_one = here;
    other = t;
    is_other = there;
    long = one_shorter s t long;
    so = last_decides s.chain t.chain s.statement.statement.at t.statement.statement.at (one_shorter s t long)
        ∙ ap (ordering_then (slice_cmp spot_cmp s.chain t.chain)) (sym is);
  }

  module _ (a b : ℕ) (order : Ordering) (s t : Standing) (so : AreOrdered all a b order s t) where
    pub ordered_more : (i j : ℕ) (step : Ordering) (one : IsCameThrough all so.one i) (other : IsCameThrough all so.other j)
        → step ≡ spot_cmp one.by.statement.statement.at other.by.statement.statement.at → AreOrdered all i j (ordering_then step order) s t
    ordered_more i j step one other is =
        let long : length (path_of one.by) ≡ length (path_of other.by) = sym (ap length one.so) ∙ so.long ∙ ap length other.so in
        record {
          one = one.by;
          is_one = one.is;
          other = other.by;
          is_other = other.is;
          long = one_shorter one.by other.by long;
          so = so.so
              ∙ ap (λ xs. ordering_then (slice_cmp spot_cmp xs so.other.chain) order) one.so
              ∙ ap (λ ys. ordering_then (slice_cmp spot_cmp (path_of one.by) ys) order) other.so
              ∙ ap (λ o. ordering_then o order) (last_decides one.by.chain other.by.chain one.by.statement.statement.at other.by.statement.statement.at (one_shorter one.by other.by long))
              ∙ ap (λ o. ordering_then (ordering_then (slice_cmp spot_cmp one.by.chain other.by.chain) o) order) (sym is)
              ∙ then_assoc (slice_cmp spot_cmp one.by.chain other.by.chain) step order;
        }

    both_none : so.one.chain ≡ [] → so.other.chain ≡ [] → order ≡ slice_cmp spot_cmp (path_of s) (path_of t)
    both_none e f =
        sym (so.so ∙ ap (λ xs. ordering_then (slice_cmp spot_cmp xs so.other.chain) order) e ∙ ap (λ ys. ordering_then (slice_cmp spot_cmp [] ys) order) f)

    pub one_ended : so.one.chain ≡ [] → order ≡ slice_cmp spot_cmp (path_of s) (path_of t)
    one_ended e = both_none e (none_long so.other.chain (sym so.long ∙ ap length e))

    pub other_ended : so.other.chain ≡ [] → order ≡ slice_cmp spot_cmp (path_of s) (path_of t)
    other_ended e = both_none (none_long so.one.chain (so.long ∙ ap length e)) e
