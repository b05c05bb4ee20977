-- `from_loose` moves the pointer, together with everything that the parts owned.
use Rattle.std.proofs.{Common.arith, lemmas.Grind.common_steps}
use Rattle.rnxcmp_c.proofs.{LooseValues.{both, Loose, loose_good, loose_out}}
use Rattle.rnxcmp_c.proofs.{ReaderBoxValues.{word, place_in}}
use Rattle.rnxcmp_c.proofs.PointerVocabulary.{List, [], ◌∷◌, ◌++◌, refl, Val, vptr, SProp, emp}
use Rattle.rnxcmp_c.proofs.PointerVocabulary.{ftrue, fsep, WpFn, ‵, raw, ◌⊛◌, ◌$◌, ◌∵◌, !, qed, move, keep, drop}
use Rattle.rnxcmp_c.proofs.PointerVocabulary.{split, join, fsplit, fjoin, suffices, regoal, prop, done, stop, fld}
use Rattle.rnxcmp_c.proofs.PointerVocabulary.{of_opd, no_more}
use Rattle.rnxcmp_c.proofs.PointerVocabulary.{and_then, returns, enter, alloc_all, pass_all, free_all, look_at, get}
use Rattle.rnxcmp_c.proofs.PointerVocabulary.{get_in, sets, agg, sub, whole, tables, yes, RattleType, plain, block_ptr}
use Rattle.rnxcmp_c.proofs.PointerVocabulary.{nothing, says, Stays, stay_dropped, walk_of, ends_at, Goes-dropped}
use Rattle.rnxcmp_c.proofs.{PointerVocabulary.{proved_at, ghosts}, reader_box.ReaderBox.from_loose.Statement.statement}
use Rattle.rnxcmp_c.specs.contracts.reader_box.ReaderBox.from_loose.{ended, clauses, Key.name as #self}
use Rattle.std_heap.specs.contracts.Global as heap
use Rattle.std_heap.proofs.Global.TheLaws as heap_laws
use Rattle.rnxcmp_c.specs.contracts.reader.Reader as reader
use Rattle.rnxcmp_c.proofs.reader_box.ReaderBox.from_loose.Code as code

pub from_loose_spec : {M : Type 1} → statement M
from_loose_spec 𝓤 𝓛 𝓜 𝓡 wired =
    let H = 𝓛.H in let 𝓣 = tables 𝓤 H 𝓜 𝓡 𝓡.env in let c = clauses 𝓛 𝓜.mem 𝓡.returns in
    let R : RattleType = reader.the_row in let Z : RattleType = heap.the_row in let LZ =
    heap_laws.the_row_laws in let From : RattleType = Loose R Z LZ ghosts in
    let hs : Stays ended.signature.params ended.kept = (stay_dropped (plain (λ _. From)) yes, tt) in
    proved_at 𝓛 ended hs c 𝓜 𝓡 (grind (arith, common_steps, Goes-dropped, From)) #self code.function
    (code.unfolded 𝓤 H 𝓜 𝓡 wired) (λ z are.
    let v = z.0.3.0 in let Post : Val → SProp 𝓤 = (walk_of 𝓛 ended hs c).post z in
    qed 𝓛 ((‵ ftrue ⊛ ‵ (fsep (From.own_val v z.0.4.0) ftrue)) ∷ raw (emp 𝓤) ∷ []) ∵ split ! $ drop !
    $ fsplit ! $ loose_out R Z LZ ghosts ! v z.0.4.0 (λ b o h e ws fits. let w : Val = both (vptr b o) h in
    move ! (0 ∷ []) $ regoal ! (λ (us : List Val). prop (WpFn 𝓤 H 𝓣.C 𝓣.Λ code.function us Post))
    (λ i. ws i ++ []) refl $ keep ! (0 ∷ []) $ enter ! 𝓣.C 𝓣.Λ code.function (w ∷ [])
    Post $ alloc_all ! (λ l. pass_all ! refl (loose_good R Z LZ ghosts b o h fits, tt) $ sets !
    (of_opd ! (get_in ! (fld ! refl (stop !)) (sub ! 0 refl (whole !)))) refl (tt, tt) $ sets !
    (of_opd ! (get ! refl)) refl (tt, tt) $ sets ! (agg ! (and_then ! (get ! refl) (no_more !))) refl
    (tt, (tt, tt)) $ returns ! (look_at ! 0 refl) $ free_all ! refl $ place_in ! (block_ptr b o)
    (v.value ∷ []) $ suffices ! _ (ends_at 𝓛 ended hs c z (word (block_ptr b o))
    (record { at = block_ptr b o; held = v.value ∷ [] }) (tt, tt) (tt, tt)) $ says ! refl $ nothing ! $
    nothing ! $ fjoin ! $ join ! $ nothing ! $ join ! $ done !)))
