use Rattle.std.specs.Prelude.{◌==◌}
use Rattle.std.proofs.Common.{◌≡◌, ◌∷◌, ap, rules}
use Rattle.std.proofs.lemmas.Fn.{always_returns_same}
use Rattle.cil_base.specs.Parts.{all_left, left, none_left, part_read}
use Rattle.cil_server.specs.Asked.{by_words, words_of}
use Rattle.cil_server.proofs.line.words_of.Goals as goal

pub returns-in_default-next : goal.returns-in_default-next
returns-in_default-next c =
    let all = all_left (λ b. b == 32) c.split-words.result c.args.line.now c.split-words.ensures.rest c.split-words.ensures.done in
    let first = part_read (λ b. b == 32) _ c.split-words.result c.next.new.self c.in-Some.word (always_returns_same _ _ _ (λ a r f' k. search rules)) c.in-Some.ensures.steps in
    let second = none_left (λ b. b == 32) c.next.new.self c.in_default-next.ensures.steps.0 in
    cc

pub returns-in_default-next-2 : goal.returns-in_default-next-2
returns-in_default-next-2 c =
    let all = all_left (λ b. b == 32) c.split-words.result c.args.line.now c.split-words.ensures.rest c.split-words.ensures.done in
    let first = part_read (λ b. b == 32) _ c.split-words.result c.next.new.self c.in-Some.word (always_returns_same _ _ _ (λ a r f' k. search rules)) c.in-Some.ensures.steps in
    let second = part_read (λ b. b == 32) _ c.next.new.self c.next-2.new.self c.in-Some-next.second (always_returns_same _ _ _ (λ a r f' k. search rules)) c.in-Some-next.ensures.steps in
    let third = none_left (λ b. b == 32) c.next-2.new.self c.in_default-next-2.ensures.steps.0 in
    cc

pub returns-in_default-next-3 : goal.returns-in_default-next-3
returns-in_default-next-3 c =
    let all = all_left (λ b. b == 32) c.split-words.result c.args.line.now c.split-words.ensures.rest c.split-words.ensures.done in
    let first = part_read (λ b. b == 32) _ c.split-words.result c.next.new.self c.in-Some.word (always_returns_same _ _ _ (λ a r f' k. search rules)) c.in-Some.ensures.steps in
    let second = part_read (λ b. b == 32) _ c.next.new.self c.next-2.new.self c.in-Some-next.second (always_returns_same _ _ _ (λ a r f' k. search rules)) c.in-Some-next.ensures.steps in
    let third = part_read (λ b. b == 32) _ c.next-2.new.self c.next-3.new.self c.in-Some-next-2.third (always_returns_same _ _ _ (λ a r f' k. search rules)) c.in-Some-next-2.ensures.steps in
    let fourth = none_left (λ b. b == 32) c.next-3.new.self c.in_default-next-3.ensures.steps.0 in
    cc

pub returns-in_default-next-4 : goal.returns-in_default-next-4
returns-in_default-next-4 c =
    let all = all_left (λ b. b == 32) c.split-words.result c.args.line.now c.split-words.ensures.rest c.split-words.ensures.done in
    let first = part_read (λ b. b == 32) _ c.split-words.result c.next.new.self c.in-Some.word (always_returns_same _ _ _ (λ a r f' k. search rules)) c.in-Some.ensures.steps in
    let second = part_read (λ b. b == 32) _ c.next.new.self c.next-2.new.self c.in-Some-next.second (always_returns_same _ _ _ (λ a r f' k. search rules)) c.in-Some-next.ensures.steps in
    let third = part_read (λ b. b == 32) _ c.next-2.new.self c.next-3.new.self c.in-Some-next-2.third (always_returns_same _ _ _ (λ a r f' k. search rules)) c.in-Some-next-2.ensures.steps in
    let fourth = part_read (λ b. b == 32) _ c.next-3.new.self c.next-4.new.self c.in-Some-next-3.fourth (always_returns_same _ _ _ (λ a r f' k. search rules)) c.in-Some-next-3.ensures.steps in
    let fifth = none_left (λ b. b == 32) c.next-4.new.self c.in_default-next-4.ensures.steps.0 in
    cc

pub returns-in-Some-next-5 : goal.returns-in-Some-next-5
returns-in-Some-next-5 c =
    let all = all_left (λ b. b == 32) c.split-words.result c.args.line.now c.split-words.ensures.rest c.split-words.ensures.done in
    let first = part_read (λ b. b == 32) _ c.split-words.result c.next.new.self c.in-Some.word (always_returns_same _ _ _ (λ a r f' k. search rules)) c.in-Some.ensures.steps in
    let second = part_read (λ b. b == 32) _ c.next.new.self c.next-2.new.self c.in-Some-next.second (always_returns_same _ _ _ (λ a r f' k. search rules)) c.in-Some-next.ensures.steps in
    let third = part_read (λ b. b == 32) _ c.next-2.new.self c.next-3.new.self c.in-Some-next-2.third (always_returns_same _ _ _ (λ a r f' k. search rules)) c.in-Some-next-2.ensures.steps in
    let fourth = part_read (λ b. b == 32) _ c.next-3.new.self c.next-4.new.self c.in-Some-next-3.fourth (always_returns_same _ _ _ (λ a r f' k. search rules)) c.in-Some-next-3.ensures.steps in
    let fifth = part_read (λ b. b == 32) _ c.next-4.new.self c.next-5.new.self c.in-Some-next-4.fifth (always_returns_same _ _ _ (λ a r f' k. search rules)) c.in-Some-next-4.ensures.steps in
    let sixth = part_read (λ b. b == 32) _ c.next-5.new.self c.next-6.new.self c.in-Some-next-5.field-0 (always_returns_same _ _ _ (λ a r f' k. search rules)) c.in-Some-next-5.ensures.steps in
    let words : words_of c.args.line.now ≡ c.in-Some.word.now ∷ c.in-Some-next.second.now ∷ c.in-Some-next-2.third.now ∷ c.in-Some-next-3.fourth.now ∷ c.in-Some-next-4.fifth.now
    ∷ c.in-Some-next-5.field-0.now ∷ left (λ b. b == 32) c.next-6.new.self = cc in
    ap by_words words

pub returns : goal.returns
returns c =
    let all = all_left (λ b. b == 32) c.split-words.result c.args.line.now c.split-words.ensures.rest c.split-words.ensures.done in
    let first = part_read (λ b. b == 32) _ c.split-words.result c.next.new.self c.in-Some.word (always_returns_same _ _ _ (λ a r f' k. search rules)) c.in-Some.ensures.steps in
    let second = part_read (λ b. b == 32) _ c.next.new.self c.next-2.new.self c.in-Some-next.second (always_returns_same _ _ _ (λ a r f' k. search rules)) c.in-Some-next.ensures.steps in
    let third = part_read (λ b. b == 32) _ c.next-2.new.self c.next-3.new.self c.in-Some-next-2.third (always_returns_same _ _ _ (λ a r f' k. search rules)) c.in-Some-next-2.ensures.steps in
    let fourth = part_read (λ b. b == 32) _ c.next-3.new.self c.next-4.new.self c.in-Some-next-3.fourth (always_returns_same _ _ _ (λ a r f' k. search rules)) c.in-Some-next-3.ensures.steps in
    let fifth = part_read (λ b. b == 32) _ c.next-4.new.self c.next-5.new.self c.in-Some-next-4.fifth (always_returns_same _ _ _ (λ a r f' k. search rules)) c.in-Some-next-4.ensures.steps in
    let sixth = none_left (λ b. b == 32) c.next-5.new.self c.in_default-next-5.ensures.steps.0 in
    cc
