-- What is told of calls: all that is wrong with what is placed.
use Rattle.std.proofs.Common.{◌≡◌, ℕ, zero, suc, ◌+◌, ◌≤◌, Bool, false, ◌&&◌, ◌||◌, List, [], ◌∷◌, ◌++◌, length, drop, refl, sym, ◌∙◌, ap, arith, append_assoc}
use Rattle.std.specs.Prelude.{Some, None, is_some, not, slice_get}
use Rattle.std.proofs.lemmas.List.{append-nil}
use Rattle.cil_base.specs.Places.{none_some, some_same}
use Rattle.cil_faults.specs.declared.code.FaultCode.TheVariants as causes
use Rattle.cil_faults.specs.declared.fault.Fault.{Fault}
use Rattle.cil_syntax.specs.declared.term.Word.{Word}
use Rattle.cil_faults.specs.Namespaces.{Namespace}
use Rattle.cil_syntax.specs.Written.{Written}
use Rattle.cil_blocks.specs.Contents.{Standing, first_word}
use Rattle.cil_macros.specs.declared.faults.Wrong.{Wrong}
use Rattle.cil_macros.specs.Brings.{is_marked}
use Rattle.cil_macros.specs.CallFaults.{faults_from, faults_of, is_again, is_unfit, told, told_if, wrong_of}
use Rattle.cil_macros.specs.CallPlaces.{is_call_in_branch}
use Rattle.cil_macros.specs.Calls.{bounds_of_call, called_macro, is_repeated}
use Rattle.cil_macros.specs.Placed.{Placed}

-- ---- of each in turn

pub from_place : {X : Type 0} (xs : List X) (at : ℕ) (x : X) → slice_get xs at ≡ Some x → drop at xs ≡ x ∷ drop (at + 1) xs
from_place [] at x e = absurd (none_some x e)
from_place (y ∷ ys) zero x e = ap (λ z. z ∷ ys) (some_same y x e)
from_place (y ∷ ys) (suc at) x e = from_place ys at x e ∙ ap (λ n. x ∷ drop n (y ∷ ys)) (let f : suc (at + 1) ≡ suc at + 1 = omega arith in f)

pub one_told : (ws : List Written) (ss : List Standing) (marks lists : List Bool) (xs : List Placed) (at : ℕ) (p : Placed) (old new all : List Fault) → slice_get xs at ≡ Some p
    → new ≡ old ++ faults_of ws ss (is_marked marks at) (is_marked lists at) p → old ++ faults_from ws ss marks lists at (drop at xs) ≡ all
    → new ++ faults_from ws ss marks lists (at + 1) (drop (at + 1) xs) ≡ all
unfolding faults_from
one_told ws ss marks lists xs at p old new all e is so =
    ap (λ ys. ys ++ faults_from ws ss marks lists (at + 1) (drop (at + 1) xs)) is
    ∙ append_assoc old (faults_of ws ss (is_marked marks at) (is_marked lists at) p) (faults_from ws ss marks lists (at + 1) (drop (at + 1) xs))
    ∙ ap (λ n. old ++ (faults_of ws ss (is_marked marks at) (is_marked lists at) p ++ faults_from ws ss marks lists n (drop (at + 1) xs))) (let f : at + 1 ≡ suc at = omega arith in f)
    ∙ ap (λ ys. old ++ faults_from ws ss marks lists at ys) (sym (from_place xs at p e))
    ∙ so

drop_all : {X : Type 0} (xs : List X) (at : ℕ) → length xs ≤ at → drop at xs ≡ []
drop_all [] zero h = refl
drop_all [] (suc at) h = refl
drop_all (x ∷ xs) zero h = absurd (omega (arith, h))
drop_all (x ∷ xs) (suc at) h = drop_all xs at (omega (arith, h))

pub all_told : (ws : List Written) (ss : List Standing) (marks lists : List Bool) (xs : List Placed) (at : ℕ) (faults all : List Fault) → length xs ≤ at
    → faults ++ faults_from ws ss marks lists at (drop at xs) ≡ all → faults ≡ all
unfolding faults_from
all_told ws ss marks lists xs at faults all h so =
    sym (append-nil faults) ∙ ap (λ ys. faults ++ faults_from ws ss marks lists at ys) (sym (drop_all xs at h)) ∙ so

-- ---- of one

pub nothing_told : (p : Placed) (x : Wrong) (faults : List Fault) → first_word p.standing.statement.statement.args ≡ None
    → faults ≡ faults ++ told p.standing.space x (first_word p.standing.statement.statement.args)
nothing_told p x faults e = sym (append-nil faults) ∙ ap (λ o. faults ++ told p.standing.space x o) (sym e)

pub causes_told : (x : Wrong) (old again unfit new : List Fault) (space : Namespace) (w : Word) → again ≡ old ++ told_if x.again causes.CallCycle space w
    → unfit ≡ again ++ told_if x.unfit causes.CallArguments space w → new ≡ unfit ++ told_if x.misplaced causes.CallPlace space w → new ≡ old ++ told space x (Some w)
causes_told x old again unfit new space w a u m =
    let first = told_if x.again causes.CallCycle space w in
    let second = told_if x.unfit causes.CallArguments space w in
    let third = told_if x.misplaced causes.CallPlace space w in
    m
    ∙ ap (λ ys. ys ++ third) (u ∙ ap (λ ys. ys ++ second) a ∙ append_assoc old first second)
    ∙ append_assoc old (first ++ second) third
    ∙ ap (λ ys. old ++ ys) (append_assoc first second third)

pub told_there : (p : Placed) (x : Wrong) (old new : List Fault) (space : Namespace) (w : Word) → space ≡ p.standing.space → first_word p.standing.statement.statement.args ≡ Some w
    → new ≡ old ++ told space x (Some w) → new ≡ old ++ told p.standing.space x (first_word p.standing.statement.statement.args)
told_there p x old new space w f g so = so ∙ ap (λ n. old ++ told n x (Some w)) f ∙ ap (λ o. old ++ told p.standing.space x o) (sym g)

pub nothing_wrong : (ws : List Written) (ss : List Standing) (mark list : Bool) (p : Placed) (b c : Bool) → called_macro ss p ≡ None → b ≡ list
    → c ≡ (mark && is_call_in_branch p.standing.statement) → record { again = false; unfit = b; misplaced = c } ≡ wrong_of ws ss mark list p
nothing_wrong ws ss mark list p b c e g h = λ i. record { again = is_again p (sym e i); unfit = is_unfit ws p (sym e i) || g i; misplaced = h i }

pub this_wrong : (ws : List Written) (ss : List Standing) (mark list : Bool) (p : Placed) (m : Standing) (a b c d u : Bool) → called_macro ss p ≡ Some m → a ≡ is_repeated p m
    → b ≡ is_some (bounds_of_call ws p m) → d ≡ list → u ≡ (not b || d) → c ≡ (mark && is_call_in_branch p.standing.statement)
    → record { again = a; unfit = u; misplaced = c } ≡ wrong_of ws ss mark list p
this_wrong ws ss mark list p m a b c d u e f g j l h =
    (λ i. record { again = f i; unfit = l i; misplaced = h i })
    ∙ (λ i. record { again = is_repeated p m; unfit = not (g i) || j i; misplaced = mark && is_call_in_branch p.standing.statement })
    ∙ (λ i. record { again = is_again p (sym e i); unfit = is_unfit ws p (sym e i) || list; misplaced = mark && is_call_in_branch p.standing.statement })
