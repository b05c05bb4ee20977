-- `into_loose` moves the pointer, together with everything that the box owned.
use Rattle.rnxcmp_c.proofs.LooseValues.{al, both, loose_good, loose_in}
use Rattle.rnxcmp_c.proofs.{ReaderBoxValues.word, PointerVocabulary.{◌≡◌, List}}
use Rattle.rnxcmp_c.proofs.PointerVocabulary.{[], ◌∷◌, ◌++◌, refl, ap, ◌∙◌, Val, vptr, vstruct, of_list}
use Rattle.rnxcmp_c.proofs.PointerVocabulary.{SProp, never, fst∗, ftrue, fsep, WpFn, sem, ‵, raw, ◌⊛◌, ◌$◌}
use Rattle.rnxcmp_c.proofs.PointerVocabulary.{◌∵◌, !, qed, move, drop, split, join, fsplit, fjoin, fpick, suffices}
use Rattle.rnxcmp_c.proofs.PointerVocabulary.{regoal, prop}
use Rattle.rnxcmp_c.proofs.PointerVocabulary.{rewrite, feq_l, done, stop, fld, of_opd, no_more, and_then, returns}
use Rattle.rnxcmp_c.proofs.PointerVocabulary.{enter, alloc_all, pass_all, free_all, look_at, get, get_in, sets, agg}
use Rattle.rnxcmp_c.proofs.PointerVocabulary.{sub, whole, fact, tables, yes, RattleType, plain, Ptr, block_ptr}
use Rattle.rnxcmp_c.proofs.PointerVocabulary.{null_ptr, ptr_val, in_a_block, lone, nothing, heard, says, Stays}
use Rattle.rnxcmp_c.proofs.PointerVocabulary.{stay_dropped, walk_of, ends_at, Goes-dropped, proved_at}
use Rattle.rnxcmp_c.proofs.PointerVocabulary.{handle_tells, box_owns, ghosts, reader_box_owns, Reader}
use Rattle.rnxcmp_c.{proofs.reader_box.ReaderBox.into_loose.Statement.statement, specs.ReaderBoxes.heap}
use Rattle.rnxcmp_c.specs.contracts.reader_box.ReaderBox.into_loose.{ended, clauses, Key.name as #self}
use mir.Raw.{raw as bare}
use Rattle.std_heap.specs.contracts.Global as heap
use Rattle.std_heap.proofs.Global.TheLaws as heap_laws
use Rattle.rnxcmp_c.specs.contracts.reader.Reader as reader
use Rattle.rnxcmp_c.specs.contracts.reader_box.ReaderBox as place
use Rattle.rnxcmp_c.proofs.reader_box.ReaderBox.into_loose.Code as code

pub into_loose_spec : {M : Type 1} → statement M
into_loose_spec 𝓤 𝓛 𝓜 𝓡 wired =
    let H = 𝓛.H in let 𝓣 = tables 𝓤 H 𝓜 𝓡 𝓡.env in let c = clauses 𝓛 𝓜.mem 𝓡.returns in
    let R : RattleType = reader.the_row in let Z : RattleType = heap.the_row in let LZ =
    heap_laws.the_row_laws in let P : RattleType = place.the_row in
    let hs : Stays ended.signature.params ended.kept =
    (stay_dropped (plain (λ _. P)) yes, (stay_dropped (plain (λ _. Z)) yes, tt)) in
    proved_at 𝓛 ended hs c 𝓜 𝓡 (
      Goes-dropped 𝓛 0 (plain (λ _. P)) yes (λ κs x f. refl),
      (Goes-dropped 𝓛 0 (plain (λ _. Z)) yes (λ κs x f. refl), tt),
    ) #self code.function (code.unfolded 𝓤 H 𝓜 𝓡 wired) (λ z are.
    let v = z.0.3.0 in let a = z.0.3.1.0 in let Post : Val → SProp 𝓤 =
    (walk_of 𝓛 ended hs c).post z in
    let Asked : Type 0 = (value : Reader) × (v.held ≡ value ∷ []) in
    qed 𝓛 ((‵ ftrue ⊛ ‵ (fsep (P.own_val v z.0.4.0) (fsep (Z.own_val a z.0.4.1.0) ftrue))) ∷ raw
    (fact 𝓤 Asked) ∷ []) ∵ move ! (1 ∷ 0 ∷ []) $ heard ! Asked
    (λ asked. let x : Reader = asked.0 in split ! $ drop ! $ fsplit ! $ fsplit ! $ fpick !
    (λ vss. fsplit ! $ feq_l ! (λ ev. fsplit ! $ feq_l ! (λ ep. drop ! $
    -- [what the box owns; the handle and nothing]
    rewrite ! 0 (λ (held : List Reader). ‵ (reader_box_owns v.at held)) asked.1 refl $ in_a_block ! v.at
    (λ p. box_owns (ghosts.dealloc_token heap) R p x)
    (fst∗ 𝓤 (never 𝓤) (sem 𝓛 (ghosts.dealloc_token heap (bare (lone R.mir)) null_ptr))) (λ b o e. move !
    (1 ∷ []) $ fsplit ! $ handle_tells (al R Z LZ ghosts) ! a z.0.4.1.0
    (λ h eh fits. move ! (1 ∷ []) $ drop ! $ move ! (1 ∷ 0 ∷ []) $
    let w : Val = word (block_ptr b o) in let made = both (vptr b o) h in let good =
    loose_good R Z LZ ghosts b o h fits in
    let ew : z.0.4.0 ≡ w ∷ [] = ev ∙ (λ j. vstruct
    (of_list ((ep ∙ ap (λ (π : Ptr). ptr_val π ∷ []) e) j ++ [])) ∷ []) in
    regoal ! (λ (us : List Val). prop (WpFn 𝓤 H 𝓣.C 𝓣.Λ code.function us Post))
    (λ i. ew i ++ (eh i ++ [])) refl $ enter ! 𝓣.C 𝓣.Λ code.function (w ∷ h ∷ [])
    Post $ alloc_all ! (λ l. pass_all ! refl ((tt, (tt, tt)), (fits, tt)) $ sets !
    (of_opd ! (get_in ! (fld ! refl (stop !)) (sub ! 0 refl (whole !)))) refl (tt, tt) $ sets !
    (of_opd ! (get ! refl)) refl (tt, tt) $ sets !
    (agg ! (and_then ! (get ! refl) (and_then ! (get ! refl) (no_more !)))) refl good $ returns !
    (look_at ! 0 refl) $ free_all ! refl $ loose_in R Z LZ ghosts ! b o h a x $ suffices ! _
    (ends_at 𝓛 ended hs c z made (record { at = block_ptr b o; alloc = a; value = x }) (tt, (tt, tt))
    (tt, (tt, tt))) $ says ! asked.1 $ nothing ! $ nothing ! $ fjoin ! $ nothing ! $ fjoin ! $ join ! $
    nothing ! $ join ! $ done !))))))))
