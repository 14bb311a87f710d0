-- The words of a fault, written one after another, are its text.
use Rattle.std.proofs.{Common.{◌≡◌, List, [], ◌∷◌, ◌++◌, ap, sym, ◌∙◌}, lemmas.List.append-nil, lemmas.List.Concat.flat_map-append}
use Rattle.file_words.specs.Lines.{Bytes}
use Rattle.fault_words.specs.{FaultWords.{Word, word_text, after_space, words_text, fault_words, fault_text}, Shown.{shown_word, shown_option, shown_words}, declared.words.FaultWords.FaultWords}
use Rattle.wsm_sound.specs.declared.faults.Fault.{Fault}

pub one_word : (nodes elements : List Bytes) (w : Word) → after_space (word_text nodes elements w) ≡ words_text nodes elements (w ∷ [])
one_word nodes elements w = sym (append-nil (after_space (word_text nodes elements w)))

joined : (nodes elements : List Bytes) (xs ys : List Word) → words_text nodes elements (xs ++ ys) ≡ words_text nodes elements xs ++ words_text nodes elements ys
joined nodes elements xs ys = flat_map-append (λ w. after_space (word_text nodes elements w)) xs ys

pub in_order : (nodes elements : List Bytes) (ws : FaultWords) (f : Fault) → shown_words ws ≡ fault_words f →
    after_space (word_text nodes elements (shown_word ws.first))
    ++ (words_text nodes elements (shown_option ws.second) ++ (words_text nodes elements (shown_option ws.third) ++ words_text nodes elements (shown_option ws.fourth)))
    ≡ fault_text nodes elements f
in_order nodes elements ws f is =
    let front : Bytes = after_space (word_text nodes elements (shown_word ws.first)) in
    let b : Bytes = words_text nodes elements (shown_option ws.second) in
    let last : words_text nodes elements (shown_option ws.third ++ shown_option ws.fourth) ≡ _ = joined nodes elements (shown_option ws.third) (shown_option ws.fourth) in
    let more : words_text nodes elements (shown_option ws.second ++ (shown_option ws.third ++ shown_option ws.fourth)) ≡ _ =
    joined nodes elements (shown_option ws.second) (shown_option ws.third ++ shown_option ws.fourth) ∙ ap (λ r. b ++ r) last in
    ap (λ r. front ++ r) (sym more) ∙ ap (λ r. words_text nodes elements r) is
