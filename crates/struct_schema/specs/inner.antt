pub mod ShapeFalls
pub mod ShapeInside
