-- The rows of entries on blocks, for any caller.
use Rattle.std.proofs.Common.{◌≡◌, ◌&&◌, not, Option, Some, refl, ap, ◌∙◌, eqb, ltb}
use Rattle.std.proofs.lemmas.Bool.{and_from, eq-eqb, lt-ltb}
use Rattle.heap_model.specs.declared.Act.TheVariants as acts
use Rattle.heap_model.specs.declared.Layer.TheVariants as layers
use Rattle.heap_model.specs.State.{Place, Live, InHand, address, is_live_of, is_live, is_live_at, is_hand_at, change_found, remove_found, is_layer}
use Rattle.heap_model.specs.Stay.{for_some, lets_stay, resized}
use Rattle.heap_model.specs.CallState.{Nothing, caller_view}
use Rattle.heap_model.specs.Legal.{may_touch, suits, with_places, with_status, layer_of, area_with, resize_place, unspan_of, is_resized, data_words}
use Rattle.call_laws.specs.Blocks.{Taking, Sizing, Resizing, Giving, Dropping, Loading, Storing, resized_state}
use Rattle.call_laws.proofs.Within.{leads, keeps, place_is, hand_is}

pub taking : Taking
taking s m c call p size r w o live =
    let found = place_is s m (keeps s m r) c p o.there in
    leads s m c call (acts.Take (address p) size) _ w refl
    (and_from (caller_view m c).entered _ w.entered
    (ap (λ (x : Option Place). for_some x (λ q. may_touch (caller_view m c) q.layer && is_live_of size q.status)) found
    ∙ and_from (may_touch (caller_view m c) p.layer) (is_live_of size p.status) o.open_to (ap (is_live_of size) live ∙ eq-eqb size size refl)))
    (ap (λ (x : Option Place). with_places m.state (layer_of x) (change_found (is_live_at (address p)) (with_status (InHand c)))) found) refl refl

pub sizing : Sizing
sizing s m c call p size r w there live =
    let found = place_is s m (keeps s m r) c p there in
    leads s m c call (acts.Sized (address p) size) m.state w refl
    (and_from (caller_view m c).entered _ w.entered
    (ap (λ (x : Option Place). for_some x (λ q. is_live_of size q.status)) found ∙ (ap (is_live_of size) live ∙ eq-eqb size size refl))) refl refl refl

pub resizing : Resizing
resizing s m c call p n r w o live not_front stays =
    let found = place_is s m (keeps s m r) c p o.there in
    let g = resized s.limits m.state p n in
    leads s m c call (acts.Resize (address p) g n) (resized_state s m.state p n) w refl
    (and_from (caller_view m c).entered _ w.entered
    (ap (λ (x : Option Place). for_some x (is_resized s m.state (caller_view m c) g n)) found
    ∙ and_from (may_touch (caller_view m c) p.layer && not (is_layer p.layer layers.Lfh) && is_live p.status && lets_stay s.limits m.state p n) (eqb g g)
    (and_from (may_touch (caller_view m c) p.layer && not (is_layer p.layer layers.Lfh) && is_live p.status) (lets_stay s.limits m.state p n)
    (and_from (may_touch (caller_view m c) p.layer && not (is_layer p.layer layers.Lfh)) (is_live p.status)
    (and_from (may_touch (caller_view m c) p.layer) (not (is_layer p.layer layers.Lfh)) o.open_to (ap not not_front)) live) stays) (eq-eqb g g refl)))
    (ap (λ (x : Option Place).
    let next = with_places m.state (layer_of x) (change_found (is_live_at (address p)) (resize_place g n)) in
    record next { back = record { area = area_with m.state.back.area g x; places = next.back.places } }) found) refl refl

pub giving : Giving
giving s m c call p size r w o hand fits =
    let found = hand_is s m (keeps s m r) c p o.there hand in
    leads s m c call (acts.Give (address p) size) _ w refl
    (and_from (caller_view m c).entered _ w.entered
    (ap (λ (x : Option Place). for_some x (λ q. may_touch (caller_view m c) q.layer && suits size q)) found
    ∙ and_from (may_touch (caller_view m c) p.layer) (suits size p) o.open_to fits))
    (ap (λ (x : Option Place). with_places m.state (layer_of x) (change_found (is_hand_at c (address p)) (with_status (Live size)))) found) refl refl

pub dropping : Dropping
dropping s m c call p r w o hand not_back =
    let found = hand_is s m (keeps s m r) c p o.there hand in
    let free : unspan_of c (Some p) ≡ Nothing = rw not_back refl in
    leads s m c call (acts.Drop (address p)) _ w refl
    (and_from (caller_view m c).entered _ w.entered (ap (λ (x : Option Place). for_some x (λ q. may_touch (caller_view m c) q.layer)) found ∙ o.open_to))
    (ap (λ (x : Option Place). with_places m.state (layer_of x) (remove_found (is_hand_at c (address p)))) found) refl
    (ap (unspan_of c) found ∙ free)

pub loading : Loading
loading s m c call word w below =
    let v = m.state.words word in
    leads s m c call (acts.Load word v) m.state w refl
    (and_from ((caller_view m c).entered && eqb v v) (ltb word (data_words s)) (and_from (caller_view m c).entered (eqb v v) w.entered (eq-eqb v v refl)) (lt-ltb word (data_words s) below)) refl refl refl

pub storing : Storing
storing s m c call word v w below =
    leads s m c call (acts.Store word v) _ w refl
    (and_from (caller_view m c).entered (ltb word (data_words s)) w.entered (lt-ltb word (data_words s) below)) refl refl refl
