-- The words of a fault behind others.
use Rattle.std.proofs.{Common.{◌≡◌, List, [], ◌∷◌, ◌++◌, ap, sym, ◌∙◌, append_assoc}, lemmas.List.append-nil}
use Rattle.file_words.specs.Lines.{Bytes}
use Rattle.fault_words.specs.{FaultWords.{Word, word_text, after_space, words_text, fault_words, fault_text}, Shown.{shown_word, shown_option, shown_words}, declared.words.FaultWords.FaultWords}
use Rattle.fault_words.proofs.InOrder as in_order
use Rattle.wsm_sound.specs.declared.faults.Fault.{Fault}

pub no_word : (old : Bytes) → old ≡ old ++ []
no_word old = sym (append-nil old)

pub one_word : (nodes elements : List Bytes) (old : Bytes) (w : Word) → old ++ after_space (word_text nodes elements w) ≡ old ++ words_text nodes elements (w ∷ [])
one_word nodes elements old w = ap (λ r. old ++ r) (in_order.one_word nodes elements w)

-- the words of a fault, one after another
pub four_words : (nodes elements : List Bytes) (old : Bytes) (ws : FaultWords) (f : Fault) → shown_words ws ≡ fault_words f →
    (((old ++ after_space (word_text nodes elements (shown_word ws.first))) ++ words_text nodes elements (shown_option ws.second)) ++ words_text nodes elements (shown_option ws.third)) ++ words_text nodes elements (shown_option ws.fourth) ≡ old ++ fault_text nodes elements f
four_words nodes elements old ws f is =
    let front : Bytes = after_space (word_text nodes elements (shown_word ws.first)) in
    let b : Bytes = words_text nodes elements (shown_option ws.second) in
    let c : Bytes = words_text nodes elements (shown_option ws.third) in
    let d : Bytes = words_text nodes elements (shown_option ws.fourth) in
    append_assoc ((old ++ front) ++ b) c d ∙ append_assoc (old ++ front) b (c ++ d) ∙ append_assoc old front (b ++ (c ++ d))
    ∙ ap (λ r. old ++ r) (in_order.in_order nodes elements ws f is)
