use Rattle.std.proofs.Common.{◌≡◌, subst}
use Rattle.heap_model.specs.State.{live}
use Rattle.heap_model.specs.History.{IsLegal}
use Rattle.heap_model.specs.Serial.{IsIdle}
use Rattle.layout_decode.specs.Decode.{decode}
use Rattle.layout_decode.specs.Shows.{Shows}
use Rattle.one_heap.specs.Lone.{LoneHeap, setting_of, history_of, behind}
use Rattle.one_heap.proofs.Ending.{legal_is, idle, at_end}
use Rattle.one_heap.proofs.OneHeap.close.Goals as goal

pub returns-clause-legal : goal.returns-clause-legal
returns-clause-legal c =
    let i = c.self.inside in
    subst (λ (x : LoneHeap). IsLegal (setting_of x) (history_of x)) c.self.view_is (legal_is i.heap i.root i.caller c.self.invariant c.join.new.root c.join.ensures c.close.ensures.legal)

pub returns-clause-idle : goal.returns-clause-idle
returns-clause-idle c =
    let i = c.self.inside in
    subst (λ (x : LoneHeap). IsIdle (behind x)) c.self.view_is (idle i.heap i.root i.caller c.self.invariant c.join.new.root c.join.ensures c.close.ensures.legal c.close.ensures.rest)

pub returns-clause-shows : goal.returns-clause-shows
returns-clause-shows c =
    let i = c.self.inside in
    let image = c.close.result.image in
    subst (λ (x : LoneHeap). Shows image (setting_of x) (behind x).state) c.self.view_is
    (at_end i.heap i.root i.caller c.self.invariant c.join.new.root c.join.ensures c.close.ensures.legal (λ s st. Shows image s st) c.close.ensures.shows)

pub returns-clause-blocks : goal.returns-clause-blocks
returns-clause-blocks c =
    let i = c.self.inside in
    let image = c.close.result.image in
    subst (λ (x : LoneHeap). decode image ≡ live (behind x).state) c.self.view_is
    (at_end i.heap i.root i.caller c.self.invariant c.join.new.root c.join.ensures c.close.ensures.legal (λ s st. decode image ≡ live st) c.close.ensures.blocks)
