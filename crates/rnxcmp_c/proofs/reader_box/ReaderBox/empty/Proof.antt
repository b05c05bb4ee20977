-- `empty` makes a null pointer, which owns nothing.
use Rattle.rnxcmp_c.proofs.{ReaderBoxValues.{word, place_in}, PointerVocabulary.{◌≡◌, List, [], ◌∷◌, refl, Val, SProp}}
use Rattle.rnxcmp_c.proofs.PointerVocabulary.{emp, ftrue, ‵, raw, ◌⊛◌, ◌$◌, ◌∵◌, !, qed, by, keep, drop, use0, no_more}
use Rattle.rnxcmp_c.proofs.PointerVocabulary.{and_then, returns, enter, alloc_all, pass_all, free_all, look_at, sets}
use Rattle.rnxcmp_c.proofs.PointerVocabulary.{agg, fact, fact_i, tables, null_ptr, nothing, walk_of, proved_at, leaves}
use Rattle.rnxcmp_c.proofs.{PointerVocabulary.Reader, reader_box.ReaderBox.empty.Statement.statement}
use Rattle.rnxcmp_c.specs.contracts.reader_box.ReaderBox.empty.{ended, clauses, Key.name as #self}
use Rattle.std.proofs.Common.{lit<}
use types.Run.{lit}
use Rattle.rnxcmp_c.proofs.reader_box.ReaderBox.empty.Code as code

pub empty_spec : {M : Type 1} → statement M
empty_spec 𝓤 𝓛 𝓜 𝓡 wired =
    let H = 𝓛.H in let 𝓣 = tables 𝓤 H 𝓜 𝓡 𝓡.env in let c = clauses 𝓛 𝓜.mem 𝓡.returns in
    proved_at 𝓛 ended tt c 𝓜 𝓡 tt #self code.function (code.unfolded 𝓤 H 𝓜 𝓡 wired) (λ z are.
    let Post : Val → SProp 𝓤 = (walk_of 𝓛 ended tt c).post z in
    qed 𝓛 ((‵ ftrue ⊛ ‵ ftrue) ∷ raw (emp 𝓤) ∷ []) ∵ drop ! $ enter ! 𝓣.C 𝓣.Λ code.function [] Post $
    alloc_all ! (λ l. pass_all ! refl tt $ sets ! (agg ! (and_then ! (lit ! tt) (no_more !))) refl
    (tt, (record { fits = lit< tt }, tt)) $ returns ! (look_at ! 0 refl) $ free_all ! refl $ nothing ! $
    place_in ! null_ptr [] $ let held : List Reader = [] in
    use0 𝓛 (raw (fact 𝓤 (held ≡ []))) (fact_i 𝓤 (held ≡ []) (emp 𝓤) refl) $ nothing ! $ nothing ! $ keep !
    (0 ∷ 1 ∷ 3 ∷ 2 ∷ []) $ by !
    (leaves 𝓛 ended tt c z (word null_ptr) (record { at = null_ptr; held = [] }) tt tt)))
