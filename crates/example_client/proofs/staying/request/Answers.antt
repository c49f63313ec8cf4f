use Rattle.example_client.proofs.staying.request.Goals as goal

pub returns : goal.returns
returns g c =
    let read = c.in_ok-t.ensures.spelt in
    (read.0, read.2, c.in_ok-letters.ensures read.0 read.1)
