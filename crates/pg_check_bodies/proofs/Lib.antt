mod BodyOrder
mod BodyRows
mod LabelPlaces
mod LeftOut
mod LineRows
mod NumberedBodies
mod PhiRows
