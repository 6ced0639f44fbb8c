use Rattle.vs_split.proofs.laws.chunks_lie_apart.Goals as goal

pub returns : goal.returns
returns c = λ v g k h n t here there l. (t.tiles g h here).apart k n l there
